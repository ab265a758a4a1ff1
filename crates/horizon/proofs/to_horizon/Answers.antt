-- Up, east and north are the components of R2(−φ) (proofs/ToHorizon.antt).
use mathlib.Core.Path.{◌≡◌}
use native.Mathlib.Omega.{arith}
use lib.ListN.{length}
use borrow.Author.Rules.{rules}
use Rattle.exact.proofs.Machine.{held}
use Rattle.rotation.specs.Rotation.{rotation2}
use Rattle.rotation.proofs.Components.{rotated-back}
use Rattle.horizon.proofs.ToHorizon.{to-horizon-is}
use Rattle.horizon.proofs.to_horizon.Goals as goal

pub returns : goal.returns
unfolding held
returns c =
    let back = rotated-back rotation2 c.args.latitude c.ranges.latitude (omega arith) c.rotation2.ensures.0 in
    let l : length c.args.m ≡ 3 = search rules in
    (cc (c.rotated.ensures.0, back, to-horizon-is c.args.latitude c.args.m l), c.rotated.ensures.1)
