use mathlib.Core.Path.{refl}
use Rattle.exact.proofs.Machine.{held}
use Rattle.rotation.specs.Rotation.{rotation2}
use Rattle.rotation.specs.Length.{axis2}
use Rattle.rotation.proofs.Sizes.{sines-held}
use Rattle.rotation.proofs.rotation2.Goals as goal

pub returns : goal.returns
unfolding held rotation2
returns c = let e = sines-held c.args.a c.ranges.a c.of-k.ensures in rw (e.0, e.1, e.2) (refl, axis2 c.args.a)
