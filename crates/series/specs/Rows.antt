-- Terms as rows of whole numbers, laid out for the sum. What the rows of a series stand for is a list of terms like any other (`terms`), and a row's
-- amplitude times the sine of its angle is the value of its term (law `steady-value`).
use Rattle.std.specs.Prelude.{Bool, true, false, List, [], ◌∷◌, ◌++◌, map, ℕ, eqb, ℤ, pos, nat_abs, ◌+ℤ◌, ◌*ℤ◌, get_or}
use Rattle.exact.specs.Nth.{nth}
use Rattle.series.specs.Term.{Part, Term}
use Rattle.series.specs.Notation.{term, none}
use Rattle.series.specs.declared.Group.{Group}
use Rattle.series.specs.declared.Series.{Series}

-- ---- a steady amplitude: amplitude, phase, and the multiples of the three arguments of the row's group

-- the parts of a row whose arguments have the indices i, j, k
abbrev pub parts : ℕ → ℕ → ℕ → List ℤ → List Part
parts i j k row =
    record { times = nth row 2; index = i }
    ∷ record { times = nth row 3; index = j }
    ∷ record { times = nth row 4; index = k }
    ∷ []

-- a part whose multiple is 0 is left out
abbrev pub keep : Bool → Part → List Part → List Part
keep true p ps = ps
keep false p ps = p ∷ ps

unfoldable pub kept : List Part → List Part
kept [] = []
kept (p ∷ ps) = keep (eqb (nat_abs p.times) 0) p (kept ps)

abbrev pub with_parts : List ℤ → List Part → Term
with_parts row ps = term (nth row 0) (pos 0) (pos 0) (nth row 1) (get_or ps 0 none) (get_or ps 1 none) (get_or ps 2 none)

unfoldable pub steady_term : ℕ → ℕ → ℕ → List ℤ → Term
steady_term i j k row = with_parts row (kept (parts i j k row))

-- the angle itself, before it is reduced, where the arguments are a, b, c
unfoldable pub steady_angle : List ℤ → ℤ → ℤ → ℤ → ℤ
steady_angle row a b c = nth row 1 +ℤ nth row 2 *ℤ a +ℤ nth row 3 *ℤ b +ℤ nth row 4 *ℤ c

-- a group: the indices of its three arguments, and its terms
abbrev pub index : Group → ℕ → ℕ
index group i = get_or group.arguments i 0

abbrev pub group_terms : Group → List Term
group_terms group = map (steady_term (index group 0) (index group 1) (index group 2)) group.rows.now

-- the terms of all groups, in order
unfoldable pub steady_terms : List Group → List Term
steady_terms [] = []
steady_terms (g ∷ gs) = group_terms g ++ steady_terms gs

-- ---- a varying amplitude: c0, c1, c2, phase, and the multiple and index of one argument
unfoldable pub varying_term : List ℤ → Term
varying_term row =
    term (nth row 0) (nth row 1) (nth row 2) (nth row 3) (record { times = nth row 4; index = nat_abs (nth row 5) }) none none

abbrev pub varying_terms : List (List ℤ) → List Term
varying_terms rows = map varying_term rows

-- ---- a series: the terms whose amplitudes vary, and then the others
abbrev pub terms : Series → List Term
terms series = varying_terms series.varying.now ++ steady_terms series.groups.now
