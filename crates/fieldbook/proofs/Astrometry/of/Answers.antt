-- Each part is what its function ensures, of the arguments of the ephemeris epoch.
use mathlib.Core.Path.{◌≡◌}
use Rattle.frame.specs.FrameContract.{IsFrame}
use Rattle.frame.specs.declared.Frame.{Frame}
use Rattle.fieldbook.specs.Shot.{sidereal_at}
use Rattle.fieldbook.proofs.Astrometry.of.Goals as goal

pub invariant_of-result : goal.invariant_of-result
unfolding sidereal_at
invariant_of-result c =
    let f : Frame = c.frame_of-frame.result in
    let frame_is : IsFrame c.arguments_of-arguments.result c.args.epochs.ephemeris.q f = c.frame_of-frame.ensures in
    let sidereal-is : c.sidereal_time-sidereal.result ≡ sidereal_at c.args.epochs =
    (let e = c.sidereal_time-sidereal.ensures.0 in
    let a = c.arguments_of-arguments.ensures.0 in
    let n = frame_is.dpsi in
    let o = frame_is.epsilon in cc) in
    record {
      known = record {
        arguments = c.arguments_of-arguments.ensures.0;
        all = c.arguments_of-arguments.ensures.1;
        frame = frame_is;
        sidereal = sidereal-is;
        sidereal-size = c.sidereal_time-sidereal.ensures.1;
      };
    }
