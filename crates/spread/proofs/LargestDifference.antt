-- The spread is the largest difference of two results of a list: none is larger, and some two differ by just that.
use mathlib.Core.Path.{◌≡◌, ap₂}
use mathlib.Core.List.{List}
use Prim.Native.Nat.{ℕ, ◌<◌}
use native.Mathlib.Omega.{arith}
use lib.IntN.{ℤ, ◌-ℤ◌}
use lib.ListN.{length}
use lib.Signed.{◌≤ℤ◌}
use Rattle.exact.specs.Nth.{nth}
use Rattle.exact.proofs.Differences.{split, zs}
use Rattle.spread.specs.Spread.{largest, smallest, spread}
use Rattle.spread.proofs.Extremes.{largest-among, smallest-among, below_each, above-each}

-- d bounds every difference, and is that of the i-th and the j-th result
pub record LargestDifference (l : List ℤ) (d : ℤ) : Type 0 where
  pub bound : (i j : ℕ) → i < length l → j < length l → (nth l i -ℤ nth l j) ≤ℤ d
  pub i : ℕ
  pub j : ℕ
  pub within-i : i < length l
  pub within-j : j < length l
  pub reached : d ≡ nth l i -ℤ nth l j

≤-refl : (a : ℤ) → a ≤ℤ a
≤-refl a = rw (split a) (simp zs (omega arith))

differences : (a b c d : ℤ) → a ≤ℤ c → d ≤ℤ b → (a -ℤ b) ≤ℤ (c -ℤ d)
differences a b c d = rw (split a, split b, split c, split d) (simp zs (omega arith))

pub spread-is-largest-difference : (l : List ℤ) → 0 < length l → LargestDifference l (spread l)
unfolding spread
spread-is-largest-difference l some =
    let most = largest-among l some in
    let least = smallest-among l some in
    record {
      bound = λ i j p q. differences (nth l i) (nth l j) (largest l) (smallest l) (below_each _ l (≤-refl _) i p) (above-each _ l (≤-refl _) j q);
      i = most.index;
      j = least.index;
      within-i = most.within;
      within-j = least.within;
      reached = ap₂ ◌-ℤ◌ most.is least.is;
    }
