-- The angle of a vector by the tests of its components' signs, as the code makes them.
use mathlib.Core.Path.{◌≡◌, refl, sym, subst}
use mathlib.Core.Bool.{true, false}
use Prim.Native.Nat.{ℕ, zero, suc, ◌+◌, ◌*◌}
use native.Mathlib.Omega.{arith}
use lib.Dec.{T}
use lib.IntN.{ℤ, pos, negsuc, nat_abs}
use lib.Signed.{lt_z}
use borrow.Author.Tests.{ltb-true, ltb-false}
use Rattle.exact.specs.Reduction.{Q}
use Rattle.vector_angle.specs.VectorAngle.{quadrant_angle, angle}

-- ---- tests that cannot come out so
no : false ≡ true → ⊥
no e = subst T (sym e) tt

under-zero : (n : ℕ) → lt_z (pos n) (pos 0) ≡ true → ⊥
under-zero n e = omega (arith, ltb-true n 0 e)

over_zero : (n : ℕ) → lt_z (pos 0) (pos (suc n)) ≡ false → ⊥
over_zero n e = omega (arith, ltb-false 0 (suc n) e)

-- ---- the angle, branch by branch
pub left_up : (x y : ℤ) → lt_z x (pos 0) ≡ true → lt_z (pos 0) y ≡ true → angle x y ≡ Q + quadrant_angle (nat_abs y) (nat_abs x)
unfolding angle
left_up (pos x) y h k = absurd (under-zero x h)
left_up (negsuc x) (pos zero) h k = absurd (under-zero 0 k)
left_up (negsuc x) (pos (suc y)) h k = refl
left_up (negsuc x) (negsuc y) h k = absurd (no k)

pub left_down : (x y : ℤ) → lt_z x (pos 0) ≡ true → lt_z (pos 0) y ≡ false → angle x y ≡ 2 * Q + quadrant_angle (nat_abs x) (nat_abs y)
unfolding angle
left_down (pos x) y h k = absurd (under-zero x h)
left_down (negsuc x) (pos zero) h k = refl
left_down (negsuc x) (pos (suc y)) h k = absurd (over_zero y k)
left_down (negsuc x) (negsuc y) h k = refl

pub right-down : (x y : ℤ) → lt_z x (pos 0) ≡ false → lt_z y (pos 0) ≡ true → angle x y ≡ 3 * Q + quadrant_angle (nat_abs y) (nat_abs x)
unfolding angle
right-down (negsuc x) y h k = absurd (no (sym h))
right-down (pos x) (pos y) h k = absurd (under-zero y k)
right-down (pos x) (negsuc y) h k = refl

pub right-up : (x y : ℤ) → lt_z y (pos 0) ≡ false → lt_z (pos 0) x ≡ true → angle x y ≡ quadrant_angle (nat_abs x) (nat_abs y)
unfolding angle
right-up x (negsuc y) h k = absurd (no (sym h))
right-up (pos zero) (pos y) h k = absurd (under-zero 0 k)
right-up (pos (suc x)) (pos y) h k = refl
right-up (negsuc x) (pos y) h k = absurd (no k)

pub straight-up : (x y : ℤ) → lt_z x (pos 0) ≡ false → lt_z (pos 0) x ≡ false → lt_z (pos 0) y ≡ true → angle x y ≡ Q + quadrant_angle (nat_abs y) (nat_abs x)
unfolding angle
straight-up (negsuc x) y h l k = absurd (no (sym h))
straight-up (pos (suc x)) y h l k = absurd (over_zero x l)
straight-up (pos zero) (pos zero) h l k = absurd (under-zero 0 k)
straight-up (pos zero) (pos (suc y)) h l k = refl
straight-up (pos zero) (negsuc y) h l k = absurd (no k)

pub nowhere : (x y : ℤ) → lt_z x (pos 0) ≡ false → lt_z (pos 0) x ≡ false → lt_z y (pos 0) ≡ false → lt_z (pos 0) y ≡ false → angle x y ≡ 0
unfolding angle
nowhere (negsuc x) y h l k m = absurd (no (sym h))
nowhere (pos (suc x)) y h l k m = absurd (over_zero x l)
nowhere (pos zero) (pos zero) h l k m = refl
nowhere (pos zero) (pos (suc y)) h l k m = absurd (over_zero y m)
nowhere (pos zero) (negsuc y) h l k m = absurd (no (sym k))

-- ---- all branches, as the code tells them apart
pub ruleset branches = (left_up, left_down, right-down, right-up, straight-up, nowhere)
