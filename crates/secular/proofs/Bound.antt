-- How large a value is, for any coefficients: one law for an addend, and the sum of the three.
use Prim.Native.Nat.{ℕ, ◌+◌, ◌*◌, ◌≤◌, ◌<◌, ◌^◌}
use native.Mathlib.Nat.{le_refl, le_trans, mul-le-mul_left}
use native.Mathlib.Omega.{arith}
use lib.Dec.{lit<}
use lib.IntN.{ℤ, pos, nat_abs, ◌+ℤ◌, ◌*ℤ◌}
use lib.Signed.{◌≤ℤ◌}
use Rattle.exact.specs.Division.{floor_div}
use Rattle.exact.proofs.Differences.{split, zs, abs-dif}
use Rattle.exact.proofs.Division.{floor-abs}
use Rattle.exact.proofs.Integers.{abs-*, abs-*-le}
use Rattle.secular.specs.FlooredPolynomial.{value}
use Rattle.secular.specs.Sizes.{most_millionths, most}
use Rattle.secular.specs.declared.Polynomial.{Polynomial}

-- floor(c·z/d), where z is at most m times d: x for a million, its square for a million squared, its cube likewise
pub addend-le : (c z : ℤ) (d m : ℕ) → 0 < d → nat_abs z ≤ m * d → nat_abs (floor_div (c *ℤ z) d) ≤ m * nat_abs c
addend-le c z d m h k = floor-abs (c *ℤ z) d (m * nat_abs c) h (rw (abs-* c z) (le_trans (mul-le-mul_left (nat_abs c) k) (omega arith)))

pub square_le : (x : ℤ) → nat_abs x ≤ most_millionths → nat_abs (x *ℤ x) ≤ most_millionths * most_millionths
square_le x h = abs-*-le x x most_millionths most_millionths h h

divisor-low : (d : ℤ) → pos (10 ^ 12) ≤ℤ d → 10 ^ 12 ≤ nat_abs d
divisor-low d = rw (split d) (simp (zs, abs-dif) (omega arith))

module _ (c : Polynomial) (x : ℤ) (h : nat_abs x ≤ most_millionths) (low : pos (10 ^ 12) ≤ℤ c.divisor) where
  pub linear-le : nat_abs (floor_div (c.c1 *ℤ x) (10 ^ 6)) ≤ 2 * nat_abs c.c1
  linear-le = addend-le c.c1 x (10 ^ 6) 2 (lit< tt) (omega arith)

  quadratic-le : nat_abs (floor_div (c.c2 *ℤ (x *ℤ x)) (nat_abs c.divisor)) ≤ 3 * nat_abs c.c2
  quadratic-le =
      let d = divisor-low c.divisor low in
      addend-le c.c2 (x *ℤ x) (nat_abs c.divisor) 3 (omega arith) (omega (arith, square_le x h))

  pub value-le : nat_abs (value c x) ≤ most c
  unfolding value most
  value-le = go c.c0 (floor_div (c.c1 *ℤ x) (10 ^ 6)) (floor_div (c.c2 *ℤ (x *ℤ x)) (nat_abs c.divisor)) (nat_abs c.c0) (2 * nat_abs c.c1) (3 * nat_abs c.c2) (le_refl _) linear-le quadratic-le
    where
      go : (a b c : ℤ) (k l m : ℕ) → nat_abs a ≤ k → nat_abs b ≤ l → nat_abs c ≤ m → nat_abs (a +ℤ b +ℤ c) ≤ k + l + m
      go a b c k l m = rw (split a, split b, split c) (simp zs (omega arith))
