-- The text is at most 15 bytes long, for every number that can be heard: those from -9,999,999 to 9,999,999.
use Prim.Native.Nat.{suc, ◌≤◌}
use native.Mathlib.Omega.{arith}
use lib.IntN.{ℤ, pos, negsuc, nat_abs}
use lib.ListN.{length}
use Rattle.digits.specs.Text.{text}
use Rattle.digits.proofs.Decimal.{length_digits}

pub at-most-fifteen : (z : ℤ) → nat_abs z ≤ 9_999_999 → length (text z) ≤ 15
at-most-fifteen (pos n) h = let l = length_digits 6 n (omega arith) in omega arith
at-most-fifteen (negsuc n) h = let l = length_digits 6 (suc n) (omega arith) in omega arith
