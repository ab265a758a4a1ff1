-- Each call gives what the definition names.
use mathlib.Core.Path.{ap₂, ◌∙◌}
use native.Mathlib.Omega.{arith}
use mir.Facts.{to_z-of_z}
use Rattle.exact.specs.Division.{floor_div, nearest_div}
use Rattle.sun.specs.Longitude.{aberration}
use Rattle.fieldbook.specs.Shot.{view_at}
use Rattle.fieldbook.specs.Parts.{sighted_shot, sun_shot}
use Rattle.fieldbook.proofs.Bodies.{epsilon-fits, sun-is}
use Rattle.fieldbook.proofs.Astrometry.sun_shot.Goals as goal

pub direction-d-requires : goal.direction-d-requires
direction-d-requires c =
    let k = c.args.self.now in simp (to_z-of_z, epsilon-fits k) (c.apparent_longitude-s.ensures.range, omega (arith, k.known.frame.epsilon-size))

pub returns : goal.returns
unfolding sun_shot aberration nearest_div floor_div
returns c =
    let k = c.args.self.now in
    let is = simp (to_z-of_z, c.ranges.edition) at c.apparent_longitude-s.ensures.value in
    let seen = sun-is k c.args.edition _ _ is (simp (to_z-of_z, epsilon-fits k) at c.direction-d.ensures.0) in
    (c.sighted_shot.ensures.0 ∙ ap₂ (λ d s. sighted_shot (view_at k.epochs c.args.position d) s) seen.0 seen.1, c.sighted_shot.ensures.1)
