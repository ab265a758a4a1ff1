-- Each call gives what the definition names.
use mathlib.Core.Path.{ap, ◌∙◌}
use mathlib.Core.List.{List}
use lib.IntN.{ℤ}
use native.Mathlib.Omega.{arith}
use Rattle.fieldbook.specs.Shot.{view_at}
use Rattle.fieldbook.specs.Parts.{sighted_shot, polaris_shot}
use Rattle.fieldbook.proofs.Bodies.{polaris-is}
use Rattle.fieldbook.proofs.Astrometry.polaris_shot.Goals as goal

pub direction-d-requires : goal.direction-d-requires
direction-d-requires c =
    let k = c.args.self.now in
    let f = k.known.frame in
    (record { epsilon0 = omega (arith, f.epsilon0-size); dpsi = omega (arith, f.dpsi-size); epsilon = omega (arith, f.epsilon-size) }, c.centre_longitude-g.ensures.1)

pub returns : goal.returns
unfolding polaris_shot
returns c =
    let k = c.args.self.now in
    let seen = polaris-is k _ _ c.centre_longitude-g.ensures.0 c.direction-d.ensures.0 in
    (c.sighted_shot.ensures.0 ∙ ap (λ (d : List ℤ). sighted_shot (view_at k.epochs c.args.position d) 0) seen, c.sighted_shot.ensures.1)
