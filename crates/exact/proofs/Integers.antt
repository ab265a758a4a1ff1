-- The laws of ℤ that `lib.IntN` and `lib.Signed` lack: the order's, and bounds on absolute values.
use mathlib.Core.Path.{◌≡◌, refl, ap}
use Prim.Native.Nat.{ℕ, zero, suc, ◌*◌, ◌≤◌, ◌<◌}
use native.Mathlib.Nat.{le_of_suc-le-suc, lt_of_mul-lt-mul_left, mul-le-mul_left, mul-le-mul}
use native.Mathlib.Omega.{arith}
use lib.IntN.{ℤ, pos, negsuc, neg_ℤ, nat_abs, ◌+ℤ◌, ◌*ℤ◌}
use lib.Signed.{◌≤ℤ◌, ◌<ℤ◌}
use Rattle.exact.proofs.Differences.{split, zs}

-- ---- the order
pub ≤-antisym : (a b : ℤ) → a ≤ℤ b → b ≤ℤ a → a ≡ b
≤-antisym a b = rw (split a, split b) (simp zs (omega arith))

pub <-next : (a b : ℤ) → a <ℤ b → (a +ℤ pos 1) ≤ℤ b
<-next a b = rw (split a, split b) (simp zs (omega arith))

pub *-mono : (d : ℕ) (x y : ℤ) → x ≤ℤ y → (pos d *ℤ x) ≤ℤ (pos d *ℤ y)
*-mono d x y = rw (split x, split y) (simp zs (λ h. omega (arith, mul-le-mul_left d h)))

-- a step of d at most: from d·x ≤ z ≤ w < d·y + d follows x ≤ y
pub within_step : (d : ℕ) (x y z w : ℤ) → (pos d *ℤ x) ≤ℤ z → z ≤ℤ w → w <ℤ (pos d *ℤ y +ℤ pos d) → x ≤ℤ y
within_step d x y z w =
    rw (split x, split y, split z, split w) (simp zs (λ h k l. le_of_suc-le-suc (lt_of_mul-lt-mul_left d (omega arith))))

-- ---- absolute values
pub abs-zero : (z : ℤ) → nat_abs z ≡ 0 → z ≡ pos 0
abs-zero (pos n) e = ap pos e
abs-zero (negsuc n) e = absurd (omega arith)

pub abs_neg : (z : ℤ) → nat_abs (neg_ℤ z) ≡ nat_abs z
abs_neg (pos zero) = refl
abs_neg (pos (suc n)) = refl
abs_neg (negsuc n) = refl

pub abs-* : (a b : ℤ) → nat_abs (a *ℤ b) ≡ nat_abs a * nat_abs b
abs-* (pos a) (pos b) = refl
abs-* (pos a) (negsuc b) = abs_neg (pos (a * suc b))
abs-* (negsuc a) (pos b) = abs_neg (pos (suc a * b))
abs-* (negsuc a) (negsuc b) = refl

pub abs-*-le : (a b : ℤ) (m n : ℕ) → nat_abs a ≤ m → nat_abs b ≤ n → nat_abs (a *ℤ b) ≤ m * n
abs-*-le a b m n h k = rw (abs-* a b) (mul-le-mul h k)

pub abs-*-lt : (a b : ℤ) (m n : ℕ) → nat_abs a < m → nat_abs b < n → nat_abs (a *ℤ b) < m * n
abs-*-lt a b m n h k = rw (abs-* a b) (omega (arith, mul-le-mul h k))
