-- The amplitude is at most 2^29 and a sine at most R.
use mathlib.Core.Path.{◌≡◌, refl, ap, ◌∙◌}
use Prim.Native.Nat.{◌*◌, ◌^◌}
use lib.IntN.{ℤ, ◌*ℤ◌}
use mir.Facts.{to_z-of_z}
use mir.Syntax.{w64}
use mir.Val.{SFits}
use Rattle.exact.specs.Reduction.{reduced}
use Rattle.exact.proofs.Integers.{abs-*-le}
use Rattle.exact.proofs.Machine.{ok-fits, fits_le}
use Rattle.sine_table.specs.Table.{R}
use Rattle.sine.specs.Sine.{Sin}
use Rattle.series.proofs.product.Goals.{After-sin, Start}
use Rattle.series.proofs.product.Goals as goal

module _ (c : After-sin) where
  abbrev start : Start
  start = c.before.before

  sine-is : c.sin.result ≡ Sin (reduced start.args.angle)
  sine-is = c.sin.ensures.value ∙ ap Sin (simp (to_z-of_z, start.ranges.angle) at c.before.reduced_bounded.ensures.0)

  sine-fits : SFits w64 c.sin.result
  sine-fits = ok-fits c.sin.result c.sin.type_inv

  product-fits : SFits w64 (start.args.amplitude *ℤ c.sin.result)
  product-fits =
      fits_le (2 ^ 29 * R) _ (abs-*-le start.args.amplitude c.sin.result (2 ^ 29) R start.requires.0 c.sin.ensures.range) refl

pub returns : goal.returns
returns c =
    simp (to_z-of_z, (start c).ranges.amplitude, sine-fits c, product-fits c) (ap (λ (z : ℤ). (start c).args.amplitude *ℤ z) (sine-is c))
