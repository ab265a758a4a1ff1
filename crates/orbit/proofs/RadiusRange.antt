-- The radius vector by plain arithmetic. With an eccentricity e of at most 17,000,000 and a cosine of at most R, without their signs, the divisor
-- R + e·Cos(v) / R lies between R − e and R + e; so nothing is divided by 0, and (R² − e²) over it lies between R − e and R + e too.
use mathlib.Core.Path.{◌≡◌, refl}
use Prim.Native.Nat.{ℕ, ◌+◌, ◌*◌, ◌≤◌, ◌<◌}
use native.Mathlib.Nat.{mul-le-mul, le_refl}
use native.Mathlib.Omega.{arith}
use lib.Dec.{lit<}
use lib.IntN.{ℤ, pos, negsuc, nat_abs, ◌+ℤ◌, ◌-ℤ◌, ◌*ℤ◌}
use lib.Signed.{◌≤ℤ◌, ◌<ℤ◌}
use Rattle.exact.specs.Division.{nearest_div}
use Rattle.exact.proofs.Differences.{split, zs, abs-dif}
use Rattle.exact.proofs.Division.{nearest-abs}
use Rattle.exact.proofs.Integers.{abs-*}
use Rattle.exact.proofs.Products.{twice}
use Rattle.sine_table.specs.Table.{R}
use Rattle.orbit.specs.Sizes.{eccentricity_most, RadiusSized}
use Rattle.orbit.specs.Orbit.{radius_by}
use Rattle.orbit.proofs.Nearest.{nearest-least, nearest-most}

square-abs : (z : ℤ) → z *ℤ z ≡ pos (nat_abs z * nat_abs z)
square-abs (pos n) = refl
square-abs (negsuc n) = refl

module _ (e cosine : ℤ) (small : nat_abs e ≤ eccentricity_most) (h : nat_abs cosine ≤ R) where
  -- e·Cos(v) / R, to nearest
  abbrev pub share : ℤ
  share = nearest_div (e *ℤ cosine) R

  abbrev pub divisor : ℤ
  divisor = pos R +ℤ share

  share-le : nat_abs share ≤ nat_abs e
  share-le = nearest-abs (e *ℤ cosine) R (nat_abs e) (lit< tt) (rw (abs-* e cosine) (omega (arith, mul-le-mul (le_refl (nat_abs e)) h)))

  pub divisor_range : (pos 0 <ℤ divisor) × (R ≤ nat_abs divisor + nat_abs e) × (nat_abs divisor ≤ R + nat_abs e)
  divisor_range = go share (nat_abs e) share-le small
    where
      go : (k : ℤ) (n : ℕ) → nat_abs k ≤ n → n ≤ eccentricity_most → (pos 0 <ℤ (pos R +ℤ k)) × (R ≤ nat_abs (pos R +ℤ k) + n) × (nat_abs (pos R +ℤ k) ≤ R + n)
      go k n = rw (split k) (simp (zs, abs-dif) (omega arith))

  divisor-positive : 0 < nat_abs divisor
  divisor-positive = let r = divisor_range in omega (arith, r.1)

  abbrev pub difference : ℤ
  difference = pos (R * R) -ℤ e *ℤ e

  -- (R − 17,000,000)·divisor ≤ R² − e² ≤ (R + 17,000,000)·divisor
  difference-range : ((pos (nat_abs divisor) *ℤ pos 983_000_000) ≤ℤ difference) × (difference ≤ℤ (pos (nat_abs divisor) *ℤ pos 1_017_000_000))
  difference-range = let r = divisor_range in rw (square-abs e) (go (nat_abs e) (nat_abs divisor) small r.1 r.2)
    where
      go : (n d : ℕ) → n ≤ eccentricity_most → R ≤ d + n → d ≤ R + n
          → ((pos d *ℤ pos 983_000_000) ≤ℤ (pos (R * R) -ℤ pos (n * n))) × ((pos (R * R) -ℤ pos (n * n)) ≤ℤ (pos d *ℤ pos 1_017_000_000))
      go n d l a b = simp zs (omega (arith, mul-le-mul l (le_refl n), twice n eccentricity_most))

  abbrev pub quotient : ℤ
  quotient = nearest_div difference (nat_abs divisor)

  pub quotient-range : (pos 0 ≤ℤ quotient) × (983_000_000 ≤ nat_abs quotient) × (nat_abs quotient ≤ 1_017_000_000)
  quotient-range =
      let d = difference-range in
      go quotient (nearest-least (pos 983_000_000) difference (nat_abs divisor) divisor-positive d.0) (nearest-most difference (pos 1_017_000_000) (nat_abs divisor) divisor-positive d.1)
    where
      go : (r : ℤ) → pos 983_000_000 ≤ℤ r → r ≤ℤ pos 1_017_000_000 → (pos 0 ≤ℤ r) × (983_000_000 ≤ nat_abs r) × (nat_abs r ≤ 1_017_000_000)
      go r = rw (split r) (simp (zs, abs-dif) (omega arith))

  pub radius-range : RadiusSized (radius_by e cosine)
  unfolding radius_by
  radius-range = record { nearest = quotient-range.1; farthest = quotient-range.2 }
