-- An epoch of N, and one of N with ΔT; both lie in the span.
use mathlib.Core.Path.{◌≡◌, refl}
use mathlib.Core.Bool.{true}
use Prim.Native.Nat.{◌^◌}
use lib.IntN.{ℤ, ◌+ℤ◌}
use mir.Facts.{to_z-of_z}
use mir.Syntax.{w64}
use mir.Val.{SFits}
use Rattle.exact.proofs.Machine.{fits_lt}
use Rattle.epoch.proofs.Sizes.{span-size}
use Rattle.calendar.specs.Sizes.{UniversalSpan}
use Rattle.calendar.specs.Time.{is_delta_t}
use Rattle.calendar.proofs.AcceptedRange.{epochs-span}
use Rattle.calendar.proofs.epochs_of.Goals as goal

sum_fits : (n d : ℤ) → UniversalSpan n → is_delta_t d ≡ true → SFits w64 (n +ℤ d)
sum_fits n d u t = fits_lt (2 ^ 43) _ (span-size _ (epochs-span n d u t).1) refl

pub overflow_add-n : goal.overflow_add-n
overflow_add-n c = simp (to_z-of_z, c.ranges.n, c.ranges.delta_t) (sum_fits c.args.n c.args.delta_t c.requires.0 c.requires.1)

pub epoch_of-requires-2 : goal.epoch_of-requires-2
epoch_of-requires-2 c =
    let f = sum_fits c.args.n c.args.delta_t c.requires.0 c.requires.1 in
    simp (to_z-of_z, c.ranges.n, c.ranges.delta_t, f) (epochs-span c.args.n c.args.delta_t c.requires.0 c.requires.1).1
