-- The product is small enough to be rounded.
use mathlib.Core.Path.{◌≡◌, refl, ap, ◌∙◌}
use Prim.Native.Nat.{◌*◌, ◌≤◌, ◌^◌}
use native.Mathlib.Omega.{arith}
use lib.IntN.{ℤ, nat_abs, ◌*ℤ◌}
use mir.Facts.{to_z-of_z}
use mir.Syntax.{w64}
use mir.Val.{SFits}
use Rattle.exact.specs.Reduction.{reduced}
use Rattle.exact.specs.Division.{nearest_div}
use Rattle.exact.proofs.Integers.{abs-*-le}
use Rattle.exact.proofs.Machine.{ok-fits, fits_le}
use Rattle.sine_table.specs.Table.{R}
use Rattle.sine.specs.Sine.{Cos}
use Rattle.frame.specs.Sidereal.{equinoxes}
use Rattle.frame.proofs.equinoxes.Goals.{After-cos, Start}
use Rattle.frame.proofs.equinoxes.Goals as goal

module _ (c : After-cos) where
  abbrev start : Start
  start = c.before.before

  abbrev product : ℤ
  product = start.args.dpsi *ℤ c.cos.result

  cosine-is : c.cos.result ≡ Cos (reduced start.args.epsilon)
  cosine-is = c.cos.ensures.0 ∙ ap Cos (simp (to_z-of_z, start.ranges.epsilon) at c.before.reduced_bounded.ensures.0)

  product_le : nat_abs product ≤ R * 2 ^ 20
  product_le = omega (arith, abs-*-le start.args.dpsi c.cos.result (2 ^ 20) R start.requires.0 c.cos.ensures.1)

  fit : SFits w64 c.cos.result × SFits w64 product
  fit = (ok-fits c.cos.result c.cos.type_inv, fits_le (R * 2 ^ 20) product product_le refl)

pub returns : goal.returns
unfolding equinoxes
returns c =
    let d = c.before in
    let s = start d in
    let e = simp (to_z-of_z, s.ranges.dpsi, (fit d).0, (fit d).1) at c.rounded.ensures in
    simp (to_z-of_z, ok-fits c.rounded.result c.rounded.type_inv)
    (e.0 ∙ ap (λ (z : ℤ). nearest_div (s.args.dpsi *ℤ z) R) (cosine-is d), e.1 (2 ^ 20) (product_le d))
