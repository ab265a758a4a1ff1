-- r is positive, and more than half of the mean distance.
use mathlib.Core.Path.{◌≡◌, refl}
use Prim.Native.Nat.{◌*◌, ◌≤◌, ◌^◌}
use native.Mathlib.Nat.{mul-le-mul, le_refl}
use native.Mathlib.Omega.{arith}
use lib.IntN.{pos, nat_abs, ◌*ℤ◌}
use mir.Facts.{to_z-of_z}
use mir.Syntax.{w64}
use mir.Val.{SFits, to_z}
use Rattle.exact.proofs.Division.{nearest-abs}
use Rattle.exact.proofs.Integers.{abs-*}
use Rattle.exact.proofs.Machine.{ok-fits, fits_le, as-signed}
use Rattle.sine_table.specs.Table.{R}
use Rattle.orbit.specs.Orbit.{at_distance}
use Rattle.orbit.proofs.at_distance.Goals.{Start}
use Rattle.orbit.proofs.at_distance.Goals as goal

module _ (s : Start) where
  product_is : nat_abs (s.args.c *ℤ pos R) ≡ nat_abs s.args.c * R
  product_is = abs-* s.args.c (pos R)

  product-fits : SFits w64 (s.args.c *ℤ pos R)
  product-fits = fits_le (2 ^ 24 * R) (s.args.c *ℤ pos R) (omega (arith, product_is, s.requires.1)) refl

  -- r, as the machine holds it
  held : to_z w64 s.args.radius_vector ≡ pos s.args.radius_vector
  held = as-signed s.args.radius_vector (omega (arith, s.requires.0.farthest))

pub returns : goal.returns
returns c =
    let s = c.before in
    let r = s.args.radius_vector in
    let a = nat_abs s.args.c in
    let n = c.nearest_div in
    let is : n.result ≡ at_distance s.args.c r = simp (to_z-of_z, s.ranges.c, product-fits s, held s) at n.ensures in
    let some = s.requires.0.nearest in
    let enough : nat_abs (s.args.c *ℤ pos R) ≤ r * (2 * a) = omega (arith, product_is s, mul-le-mul some (le_refl a)) in
    simp (to_z-of_z, ok-fits n.result n.type_inv) (is, rw is (nearest-abs (s.args.c *ℤ pos R) r (2 * a) (omega (arith, some)) enough))
