-- Two rotations, and the angles of what they give.
use Prim.Native.Nat.{◌≤◌}
use native.Mathlib.Omega.{arith}
use mir.Facts.{to_z-of_z}
use Rattle.rotation.proofs.Sizes.{components-le}
use Rattle.rotation.specs.Length.{squared_length}
use Rattle.rotation.specs.Sizes.{reach}
use Rattle.horizon.proofs.Components.{component-fits}
use Rattle.horizon.proofs.sight.Goals as goal

pub invariant_of-seen : goal.invariant_of-seen
invariant_of-seen c =
    let m = c.to_meridian-m.result in
    let h = c.to_horizon.result in
    let m-short : squared_length m ≤ reach = omega arith in
    let h_short : squared_length h ≤ reach = omega arith in
    simp (to_z-of_z, component-fits m m-short 0, component-fits h h_short 0, component-fits h h_short 1, component-fits h h_short 2)
    (record {
      x_small = components-le m m-short 0;
      up_small = components-le h h_short 0;
      east_small = components-le h h_short 1;
      north_small = components-le h h_short 2;
    })
