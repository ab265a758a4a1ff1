-- The coefficients are the printed decimals in whole units, which antt computes.
use native.Mathlib.Nat.{le_trans}
use lib.Dec.{lit≤}
use mir.Facts.{to_z-of_z}
use Rattle.exact.specs.Division.{floor_div, nearest_div}
use Rattle.exact.proofs.Machine.{ok-fits}
use Rattle.secular.specs.Sizes.{most}
use Rattle.orbit.specs.Orbit.{eccentricity}
use Rattle.orbit.proofs.eccentricity.Goals as goal

pub returns : goal.returns
unfolding eccentricity most nearest_div floor_div
returns c =
    let v = c.value in
    simp (to_z-of_z, ok-fits v.result v.type_inv) (simp (to_z-of_z, c.before.ranges.q) at v.ensures.0, le_trans v.ensures.1 (lit≤ tt))
