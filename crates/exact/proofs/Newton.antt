-- Newton's step for a square root, on natural numbers: from any guess above 0 it lands at the root or above.
use mathlib.Core.Path.{◌≡◌}
use Prim.Native.Nat.{ℕ, zero, suc, ◌+◌, ◌*◌, ◌/◌, ◌≤◌, ◌<◌}
use native.Mathlib.Nat.{lt-suc_self, zero-lt-suc, mul-le-mul_right, div-lt_iff_lt-mul, div-mul-le_self}
use native.Mathlib.Omega.{arith}
use Rattle.exact.proofs.Products.{mean}

-- x < (h + 1)² says that h is at the root or above
pub step-above : (x h : ℕ) → 0 < h → x < ((h + x / h) / 2 + 1) * ((h + x / h) / 2 + 1)
step-above x h k =
    let below : x < suc (x / h) * h = (div-lt_iff_lt-mul k).0 (lt-suc_self (x / h)) in
    omega (arith, mean (suc (x / h)) h ((h + x / h) / 2 + 1) (omega arith))

-- where the quotient is not below the divisor, the square is at most x
pub square_le : (x h : ℕ) → 0 < h → h ≤ x / h → h * h ≤ x
square_le x h k l = omega (arith, mul-le-mul_right h l, div-mul-le_self x h)

-- a guess at the root of a number above 0, or above it, is above 0
pub guess-pos : (x h : ℕ) → (x ≡ 0 → ⊥) → x < (h + 1) * (h + 1) → 0 < h
guess-pos x zero n l = absurd (n (omega arith))
guess-pos x (suc h) n l = zero-lt-suc h
