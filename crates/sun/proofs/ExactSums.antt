-- How large the exact sum of two parts of an edition is, over plain numbers, and that it fits 64 bits.
use Prim.Native.Nat.{ℕ, ◌+◌, ◌*◌, ◌≤◌, ◌^◌}
use native.Mathlib.Omega.{arith}
use lib.IntN.{ℤ, nat_abs, ◌+ℤ◌}
use mir.Syntax.{w64}
use mir.Val.{SFits}
use Rattle.exact.proofs.Differences.{split, zs}
use Rattle.sine_table.specs.Table.{R}

pub two-fit : (a b : ℤ) (m n : ℕ) → nat_abs a ≤ R * m → nat_abs b ≤ R * n → m ≤ 2 ^ 28 → n ≤ 2 ^ 28 → SFits w64 (a +ℤ b) × (nat_abs (a +ℤ b) ≤ R * (m + n))
two-fit a b m n = rw (split a, split b) (simp zs (omega arith))
