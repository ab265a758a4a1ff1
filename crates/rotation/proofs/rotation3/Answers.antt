use mathlib.Core.Path.{refl}
use Rattle.exact.proofs.Machine.{held}
use Rattle.rotation.specs.Rotation.{rotation3}
use Rattle.rotation.specs.Length.{axis3}
use Rattle.rotation.proofs.Sizes.{sines-held}
use Rattle.rotation.proofs.rotation3.Goals as goal

pub returns : goal.returns
unfolding held rotation3
returns c = let e = sines-held c.args.a c.ranges.a c.of-k.ensures in rw (e.0, e.1, e.2) (refl, axis3 c.args.a)
