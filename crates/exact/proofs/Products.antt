-- A product of two natural numbers by squares: of their sum, of themselves, of their mean; and the order of squares.
use Prim.Native.Nat.{ℕ, zero, suc, ◌+◌, ◌*◌, ◌≤◌}
use native.Mathlib.Nat.{mul-le-mul}
use native.Mathlib.Decide.{dec_le}
use native.Mathlib.Omega.{arith}

pub four : (u v : ℕ) → 4 * (u * v) ≤ (u + v) * (u + v)
four zero v = omega arith
four (suc u) zero = omega arith
four (suc u) (suc v) = omega (arith, four u v)

pub twice : (a b : ℕ) → 2 * (a * b) ≤ a * a + b * b
twice a b = omega (arith, four a b)

pub mean : (a b m : ℕ) → a + b ≤ m + m → a * b ≤ m * m
mean a b m h = omega (arith, four a b, mul-le-mul h h)

pub root-le : (a b : ℕ) → a * a ≤ b * b → a ≤ b
root-le a b h = by (dec_le a b)
  where
    by : Dec (a ≤ b) → a ≤ b
    by (yes k) = k
    by (no k) = let l : b + 1 ≤ a = omega arith in absurd (omega (arith, mul-le-mul l l))
