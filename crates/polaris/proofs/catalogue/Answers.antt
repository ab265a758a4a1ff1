-- The vector is a direction in the plane of the first and third axes, rotated by R3(−α).
use mathlib.Core.Path.{◌≡◌, ap, ap₂, ◌∙◌}
use mathlib.Core.List.{[], ◌∷◌}
use Prim.Native.Nat.{◌≤◌}
use native.Mathlib.Omega.{arith}
use lib.IntN.{ℤ, pos, neg_ℤ, ◌+ℤ◌, ◌*ℤ◌}
use mir.Facts.{to_z-of_z}
use mir.Syntax.{w64}
use mir.Val.{SFits}
use Rattle.exact.specs.Reduction.{reduced}
use Rattle.exact.specs.Division.{nearest_div}
use Rattle.exact.proofs.Differences.{split, zs}
use Rattle.exact.proofs.Machine.{ok-fits}
use Rattle.exact.proofs.Reduction.{reduced-lt}
use Rattle.sine_table.specs.Table.{R}
use Rattle.sine.specs.Sine.{Sin, Cos}
use Rattle.sine.specs.SineContract.{circle_most}
use Rattle.rotation.specs.Rotation.{rotated, sin_of, cos_of, rotation3}
use Rattle.rotation.specs.Length.{squared_length}
use Rattle.rotation.proofs.Growth.{plane-xz}
use Rattle.rotation.proofs.Components.{rotated-3, sin-neg, cos-neg}
use Rattle.polaris.specs.Apparent.{catalogue}
use Rattle.polaris.proofs.catalogue.Goals.{After-sin}
use Rattle.polaris.proofs.catalogue.Goals as goal

catalogue-is : (α δ : ℤ) → rotated (rotation3 (neg_ℤ α)) (cos_of δ ∷ pos 0 ∷ sin_of δ ∷ []) ≡ catalogue α δ
unfolding catalogue
catalogue-is α δ =
    rotated-3 (neg_ℤ α) (cos_of δ) (pos 0) (sin_of δ)
    ∙ rw (sin-neg α, cos-neg α)
    (ap₂ (λ (x y : ℤ). nearest_div x R ∷ nearest_div y R ∷ sin_of δ ∷ []) (x-is (cos_of α) (sin_of α) (cos_of δ)) (y-is (cos_of α) (sin_of α) (cos_of δ)))
  where
    x-is : (c s d : ℤ) → c *ℤ d +ℤ neg_ℤ s *ℤ pos 0 ≡ d *ℤ c
    x-is c s d = rw (split c, split s, split d) (simp zs (omega arith))

    y-is : (c s d : ℤ) → neg_ℤ (neg_ℤ s) *ℤ d +ℤ c *ℤ pos 0 ≡ d *ℤ s
    y-is c s d = rw (split c, split s, split d) (simp zs (omega arith))

module _ (c : After-sin) where
  fits : SFits w64 c.cos.result × SFits w64 c.sin.result
  fits = (ok-fits c.cos.result c.cos.type_inv, ok-fits c.sin.result c.sin.type_inv)

  angle-is : c.reduced_bounded-d.result ≡ reduced c.args.delta
  angle-is = simp (to_z-of_z, c.ranges.delta) at c.reduced_bounded-d.ensures.0

  x-is : c.cos.result ≡ cos_of c.args.delta
  x-is = c.cos.ensures.0 ∙ ap Cos angle-is

  z-is : c.sin.result ≡ sin_of c.args.delta
  z-is = c.sin.ensures.value ∙ ap Sin angle-is

  short : squared_length (c.cos.result ∷ pos 0 ∷ c.sin.result ∷ []) ≤ circle_most
  short = plane-xz (reduced c.args.delta) (reduced-lt c.args.delta) x-is z-is

pub rotated_back-requires : goal.rotated_back-requires
rotated_back-requires c = simp (to_z-of_z, c.ranges.alpha, (fits c).0, (fits c).1) (c.requires.0, omega (arith, short c))

pub returns : goal.returns
returns c =
    let d = c.before in
    let e = simp (to_z-of_z, c.ranges.alpha, (fits d).0, (fits d).1) at c.rotated_back.ensures in
    (cc (e.0, x-is d, z-is d, catalogue-is c.args.alpha c.args.delta), omega (arith, e.1, short d))
