-- Which arguments the terms of a sum name.
use mathlib.Core.Bool.{Bool, true, ◌&&◌}
use mathlib.Core.List.{List, [], ◌∷◌}
use Prim.Native.Nat.{ℕ}
use lib.Dec.{ltb}
use Rattle.series.specs.Term.{Part, Term}

-- the terms name the first k arguments alone: a test that antt computes
abbrev pub names : ℕ → Part → Bool
names k p = ltb p.index k

abbrev pub name_first : ℕ → List Term → Bool
name_first k [] = true
name_first k (t ∷ ts) = (names k t.first && (names k t.second && names k t.third)) && name_first k ts
