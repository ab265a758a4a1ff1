-- Components of at most 800,000,000 have a squared length of at most 1.92·R².
use mathlib.Core.List.{[], ◌∷◌}
use Prim.Native.Nat.{◌+◌, ◌*◌, ◌≤◌}
use native.Mathlib.Nat.{mul-le-mul}
use native.Mathlib.Omega.{arith}
use Rattle.std.proofs.lemmas.Int.{clamps}
use lib.IntN.{ℤ, nat_abs}
use mir.Facts.{to_z-of_z}
use Rattle.rotation.specs.Length.{squared_length, growth}
use Rattle.rotation.specs.Sizes.{reach}
use Rattle.vectors.proofs.angles.of_direction.Goals as goal

short : (x y z : ℤ) → nat_abs x ≤ 800_000_000 → nat_abs y ≤ 800_000_000 → nat_abs z ≤ 800_000_000 → squared_length (x ∷ y ∷ z ∷ []) + 2 * growth ≤ reach
unfolding squared_length
short x y z hx hy hz = omega (arith, mul-le-mul hx hx, mul-le-mul hy hy, mul-le-mul hz hz)

pub from_position-requires : goal.from_position-requires
from_position-requires c =
    let ex = simp (to_z-of_z, c.ranges.x) at c.magnitude.ensures in
    let ey = simp (to_z-of_z, c.ranges.y) at c.magnitude-2.ensures in
    let ez = simp (to_z-of_z, c.ranges.z) at c.magnitude-3.ensures in
    simp (to_z-of_z, c.ranges.x, c.ranges.y, c.ranges.z)
    (short c.args.x c.args.y c.args.z (omega (arith, clamps)) (omega (arith, clamps)) (omega (arith, clamps)), c.reduced.ensures.1)
