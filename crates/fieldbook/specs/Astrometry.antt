-- What holds of the astrometry of an accepted instant, which both bodies share: each part by its definition, and its size.
use Rattle.std.specs.Prelude.{◌≡◌, List, ℕ, ◌<◌, ℤ}
use Rattle.exact.specs.Reduction.{turn}
use Rattle.calendar.specs.declared.Epochs.{Epochs}
use Rattle.arguments.specs.PrintedArguments.{arguments_of}
use Rattle.arguments.specs.Sizes.{IsArguments}
use Rattle.frame.specs.FrameContract.{IsFrame}
use Rattle.frame.specs.declared.Frame.{Frame}
use Rattle.fieldbook.specs.Shot.{sidereal_at}

-- of its epochs, the arguments, the frame and sidereal time
pub record IsAstrometry (es : Epochs) (a : List ℤ) (f : Frame) (s : ℕ) : Type 0 where
  pub arguments : a ≡ arguments_of es.ephemeris
  pub all : IsArguments a
  pub frame : IsFrame a es.ephemeris.q f
  pub sidereal : s ≡ sidereal_at es
  pub sidereal-size : s < turn
