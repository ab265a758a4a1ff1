-- 20.496″ of the mean distance, at r.
use native.Mathlib.Omega.{arith}
use mir.Facts.{to_z-of_z}
use Rattle.exact.specs.Division.{floor_div, nearest_div}
use Rattle.exact.proofs.Machine.{ok-fits}
use Rattle.orbit.specs.Orbit.{aberration}
use Rattle.orbit.proofs.aberration.Goals as goal

pub returns : goal.returns
unfolding aberration nearest_div floor_div
returns c =
    let d = c.at_distance in
    simp (to_z-of_z, ok-fits d.result d.type_inv) (d.ensures.0, omega (arith, d.ensures.1))
