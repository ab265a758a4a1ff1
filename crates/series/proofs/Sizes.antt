-- The bounds of rows at work: a multiple of an argument is small. What a sum asks of a table follows from one test that antt computes.
use mathlib.Core.Path.{◌≡◌}
use mathlib.Core.Bool.{Bool, true, ◌&&◌}
use mathlib.Core.List.{List, [], ◌∷◌, ◌++◌}
use Prim.Native.Nat.{ℕ, zero, suc, ◌^◌, ◌≤◌, ◌<◌}
use native.Mathlib.Nat.{not-suc-le-zero, le_of_suc-le-suc}
use native.Mathlib.Omega.{arith}
use lib.Dec.{T, leb, ltb, leb→le, ltb→lt}
use lib.IntN.{ℤ, pos, nat_abs, ◌*ℤ◌}
use lib.ListN.{length, get_or}
use lib.Signed.{le_z, le_z_yes}
use Rattle.exact.specs.Reduction.{turn}
use Rattle.exact.specs.Nth.{nth}
use Rattle.exact.specs.Sizes.{AllReduced}
use Rattle.exact.proofs.Integers.{abs-*-le}
use Rattle.exact.proofs.AllBelow.{and_l, and_r, all_below, below_all}
use Rattle.secular.specs.Sizes.{most_millionths}
use Rattle.series.specs.Sum.{weights}
use Rattle.series.specs.Rows.{index, steady_terms, varying_terms}
use Rattle.series.specs.Sizes.{Each, AtMost, steady_bounds, varying_bounds, heaviest, SmallGroup, SteadyReady, VaryingRow, VaryingReady}
use Rattle.series.specs.declared.Group.{Group}

pub multiple-le : (x a : ℤ) → nat_abs x ≤ 255 → nat_abs a < turn → nat_abs (x *ℤ a) ≤ 2 ^ 42
multiple-le x a h k = omega (arith, abs-*-le x a 255 turn h (omega arith))

-- ---- the tests
abbrev every : {A : Type 0} → (A → Bool) → List A → Bool
every p [] = true
every p (row ∷ rows) = p row && every p rows

each : {A : Type 0} (P : A → Type 0) (p : A → Bool) → ((row : A) → T (p row) → P row) → (rows : List A) → T (every p rows) → Each P rows
each P p law [] t i beyond h = absurd (not-suc-le-zero h)
each P p law (row ∷ rows) t zero beyond h = law row (and_l (p row) (every p rows) t)
each P p law (row ∷ rows) t (suc i) beyond h = each P p law rows (and_r (p row) (every p rows) t) i beyond (le_of_suc-le-suc h)

abbrev at_most : List ℕ → List ℤ → Bool
at_most bounds row = all_below (λ i. leb (nat_abs (nth row i)) (get_or bounds i 0)) (length bounds)

at-most : (bounds : List ℕ) (row : List ℤ) → T (at_most bounds row) → AtMost bounds row
at-most bounds row t i h = leb→le _ _ (below_all (λ i. leb (nat_abs (nth row i)) (get_or bounds i 0)) (length bounds) i t h)

abbrev small_group : ℕ → Group → Bool
small_group k group = all_below (λ i. ltb (index group i) k) 3 && every (at_most steady_bounds) group.rows.now

is-small-group : (k : ℕ) (group : Group) → T (small_group k group) → SmallGroup k group
is-small-group k group t =
    let indexed = all_below (λ i. ltb (index group i) k) 3 in
    let small = every (at_most steady_bounds) group.rows.now in
    record {
      indexed = λ i h. ltb→lt _ _ (below_all (λ i. ltb (index group i) k) 3 i (and_l indexed small t) h);
      small = each (AtMost steady_bounds) (at_most steady_bounds) (at-most steady_bounds) group.rows.now (and_r indexed small t);
    }

abbrev varying_row : ℕ → List ℤ → Bool
varying_row k row = at_most varying_bounds row && (le_z (pos 0) (nth row 5) && ltb (nat_abs (nth row 5)) k)

is-varying-row : (k : ℕ) (row : List ℤ) → T (varying_row k row) → VaryingRow k row
is-varying-row k row t =
    let small = at_most varying_bounds row in
    let natural = le_z (pos 0) (nth row 5) in
    let inside = ltb (nat_abs (nth row 5)) k in
    let u = and_r small (natural && inside) t in
    record {
      small = at-most varying_bounds row (and_l small (natural && inside) t);
      natural = le_z_yes (and_l natural inside u);
      indexed = ltb→lt _ _ (and_r natural inside u);
    }

-- ---- what a sum over k arguments asks of closed tables
abbrev pub steady_tables : ℕ → List Group → Bool
steady_tables k groups = every (small_group k) groups && leb (weights (steady_terms groups)) heaviest

pub steady-ready : (k : ℕ) {groups : List Group} {arguments : List ℤ} → AllReduced arguments
    → length arguments ≡ k → T (steady_tables k groups) → SteadyReady groups arguments
steady-ready k {groups} {arguments} a l h =
    let small = every (small_group k) groups in
    let light = leb (weights (steady_terms groups)) heaviest in
    record {
      angles = a;
      each = rw l (each (SmallGroup k) (small_group k) (is-small-group k) groups (and_l small light h));
      light = leb→le _ _ (and_r small light h);
    }

abbrev pub varying_tables : ℕ → List (List ℤ) → Bool
varying_tables k rows = every (varying_row k) rows && leb (weights (varying_terms rows)) heaviest

pub varying-ready : (k : ℕ) {rows : List (List ℤ)} {arguments : List ℤ} {q : ℤ} → AllReduced arguments
    → length arguments ≡ k → nat_abs q ≤ most_millionths → T (varying_tables k rows) → VaryingReady rows arguments q
varying-ready k {rows} {arguments} {q} a l m h =
    let r = every (varying_row k) rows in
    let w = leb (weights (varying_terms rows)) heaviest in
    record {
      angles = a;
      moment = m;
      each = rw l (each (VaryingRow k) (varying_row k) (is-varying-row k) rows (and_l r w h));
      light = leb→le _ _ (and_r r w h);
    }

-- both kinds of a series
pub sum-ready : (k : ℕ) {varying : List (List ℤ)} {groups : List Group} {arguments : List ℤ} {q : ℤ}
    → AllReduced arguments → length arguments ≡ k → nat_abs q ≤ most_millionths
    → T (varying_tables k varying) → T (steady_tables k groups) → T (leb (weights (varying_terms varying ++ steady_terms groups)) heaviest)
    → VaryingReady varying arguments q × SteadyReady groups arguments × (weights (varying_terms varying ++ steady_terms groups) ≤ heaviest)
sum-ready k a l m v s w = (varying-ready k a l m v, steady-ready k a l s, leb→le _ _ w)
