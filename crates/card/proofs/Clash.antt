-- Two constructors are never equal: `clash (cc)` closes a case in which the equations in scope would have them so.
use mathlib.Core.Path.{◌≡◌}
use Prim.Native.Nat.{ℕ}
use native.Mathlib.Omega.{arith}

pub clash {ℓ} : {P : Type ℓ} → ◌≡◌ {A = ℕ} 0 1 → P
clash e = absurd (omega arith)
