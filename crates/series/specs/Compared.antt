-- Document 02, request 8 (RULES.md, "What the short edition leaves out"): what changes from one list of terms to another, and how much that is at q. Two
-- terms belong together where they are sines of one angle; a list that lacks a term has it with the amplitude 0. The order of a list does not matter,
-- and where it has two terms of one angle each belongs to one of the other list.
use Rattle.std.specs.Prelude.{Bool, cond, ◌&&◌, List, [], ◌∷◌, ◌++◌, map, ℕ, ◌+◌, eqb, ℤ, pos, nat_abs, ◌-ℤ◌}
use Rattle.exact.specs.Range.{same}
use Rattle.series.specs.Term.{Part, Term, amplitude_of}
use Rattle.series.specs.Notation.{term}

-- ---- the terms of one angle, as it is written
abbrev pub same_part : Part → Part → Bool
same_part p r = same p.times r.times && eqb p.index r.index

unfoldable pub same_angle : Term → Term → Bool
same_angle t u =
    same t.phase u.phase && (same_part t.first u.first && (same_part t.second u.second && same_part t.third u.third))

-- they have one amplitude at every q
unfoldable pub same_amplitude : Term → Term → Bool
same_amplitude t u = same t.c0 u.c0 && (same t.c1 u.c1 && same t.c2 u.c2)

-- a term with the amplitude 0
abbrev pub silent : Term → Term
silent t = term (pos 0) (pos 0) (pos 0) t.phase t.first t.second t.third

-- the first term of a list that has the angle of u
unfoldable pub counterpart : Term → List Term → Term
counterpart u [] = silent u
counterpart u (t ∷ ts) = cond (same_angle t u) t (counterpart u ts)

-- and the list without it
unfoldable pub others : Term → List Term → List Term
others u [] = []
others u (t ∷ ts) = cond (same_angle t u) ts (t ∷ others u ts)

-- ---- what changes
-- a term as the one list has it and as the other has it
pub record Change : Type 0 where
  pub before : Term
  pub after : Term

abbrev pub change : Term → Term → Change
change t u = record { before = t; after = u }

-- a term that the other list alone has, and one that it lacks
abbrev pub added : Term → Change
added u = change (silent u) u

abbrev pub gone : Term → Change
gone t = change t (silent t)

-- nothing, where the amplitude is the same
abbrev pub changed : Term → Term → List Change
changed t u = cond (same_amplitude t u) [] (change t u ∷ [])

unfoldable pub changes : List Term → List Term → List Change
changes ts [] = map gone ts
changes ts (u ∷ us) = changed (counterpart u ts) u ++ changes (others u ts) us

-- a list with changes made
unfoldable pub restored : List Term → List Change → List Term
restored ts [] = ts
restored ts (c ∷ cs) = c.after ∷ restored (others c.after ts) cs

-- ---- how much that is at q, in units
-- the difference of the amplitudes
abbrev pub cost : ℤ → Change → ℕ
cost q c = nat_abs (amplitude_of c.after q -ℤ amplitude_of c.before q)

unfoldable pub costs : ℤ → List Change → ℕ
costs q [] = 0
costs q (c ∷ cs) = cost q c + costs q cs

-- request 8's sum of the dropped amplitudes: what ts leaves out of us, or has otherwise
abbrev pub dropped : List Term → List Term → ℤ → ℕ
dropped ts us q = costs q (changes ts us)
