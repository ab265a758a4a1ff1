-- One pass over a list, with any f, as `larger` or `smaller`: from the number so far, what is left of the list leads to that of the whole list.
use mathlib.Core.Path.{◌≡◌, ap}
use mathlib.Core.List.{List, [], ◌∷◌}
use Prim.Native.Nat.{ℕ, ◌+◌, ◌-◌, ◌≤◌, ◌<◌}
use native.Mathlib.Numerals.{add-one}
use native.Mathlib.Omega.{arith}
use lib.IntN.{ℤ, pos}
use lib.ListN.{length, get_or, take, drop, drop_of_length-le}
use lib.Seq.{take_all, drop-cons}
use Rattle.std.specs.Int.{int_max, int_min}
use Rattle.std.proofs.lemmas.Int.{ints}
use Rattle.spread.specs.Spread.{larger, smaller, along, overall}

-- std's words for the two
pub max_is : (a b : ℤ) → int_max a b ≡ larger a b
max_is a b = grind (arith, ints)

pub min_is : (a b : ℤ) → int_min a b ≡ smaller a b
min_is a b = grind (arith, ints)

pub along-begin : (f : ℤ → ℤ → ℤ) (l : List ℤ) → 0 < length l → along f (get_or l 0 (pos 0)) (take (length l - 1) (drop 1 l)) ≡ overall f l
unfolding overall
along-begin f [] h = absurd (omega arith)
along-begin f (z ∷ zs) h = ap (along f z) (take_all (length (z ∷ zs) - 1) zs (omega arith))

module _ (f : ℤ → ℤ → ℤ) (l : List ℤ) (z : ℤ) (i : ℕ) where
  pub along-next : i < length l → along f z (drop i l) ≡ along f (f z (get_or l i (pos 0))) (drop (i + 1) l)
  unfolding along
  along-next h = rw (drop-cons l i (pos 0) h, add-one)

  pub along-end : length l ≤ i → along f z (drop i l) ≡ z
  unfolding along
  along-end h = rw (drop_of_length-le l h)
