-- The sine is positive, and the law `correction-range` has the rest.
use mathlib.Core.Path.{◌≡◌, ap₂, subst⁻¹, ◌∙◌}
use Prim.Native.Nat.{◌≤◌, ◌^◌}
use native.Mathlib.Omega.{arith}
use lib.IntN.{ℤ, pos, nat_abs, ◌*ℤ◌}
use lib.Signed.{◌≤ℤ◌, ◌<ℤ◌}
use mir.Facts.{to_z-of_z}
use mir.Syntax.{w64}
use mir.Val.{SFits}
use Rattle.exact.specs.Division.{nearest_div}
use Rattle.exact.proofs.Differences.{split, zs}
use Rattle.exact.proofs.Machine.{ok-fits}
use Rattle.sine_table.specs.Table.{R}
use Rattle.limb.specs.Sizes.{sine_least}
use Rattle.limb.specs.Limb.{correction}
use Rattle.limb.specs.Sizes.{CorrectionSized}
use Rattle.limb.proofs.CorrectionRange.{steep, correction-range}
use Rattle.limb.proofs.correction.Goals.{After-semidiameter, After-sin, Start}
use Rattle.limb.proofs.correction.Goals as goal

module _ (c : After-semidiameter) where
  abbrev half : ℤ
  half = c.semidiameter.result

  half-fits : SFits w64 half
  half-fits = ok-fits half c.semidiameter.type_inv

  product : SFits w64 (half *ℤ pos R) × (nat_abs (half *ℤ pos R) ≤ 2 ^ 61)
  product = let h = c.semidiameter.ensures.1 in go half h.least h.most
    where
      go : (s : ℤ) → pos 9_450_000 ≤ℤ s → s ≤ℤ pos 9_780_000 → SFits w64 (s *ℤ pos R) × (nat_abs (s *ℤ pos R) ≤ 2 ^ 61)
      go s = rw (split s) (simp zs (omega arith))

-- the sine, as a divisor
module _ (c : After-sin) where
  abbrev start : Start
  start = c.before.before

  sine-fits : SFits w64 c.sin.result
  sine-fits = ok-fits c.sin.result c.sin.type_inv

  divisor : (pos 0 <ℤ c.sin.result) × (sine_least ≤ nat_abs c.sin.result) × (nat_abs c.sin.result ≤ R)
  divisor = let s = c.sin.ensures in steep c.sin.result (subst⁻¹ (λ (z : ℤ). pos sine_least ≤ℤ z) s.value start.requires.2) s.range

pub returns : goal.returns
unfolding correction
returns c =
    let d = c.before in
    let h = d.before in
    let s = start d in
    let a = s.args in
    let n = c.nearest_div in
    let quotient = simp (to_z-of_z, half-fits h, (product h).0, sine-fits d) at n.ensures in
    let is : n.result ≡ correction a.radius_vector a.zenith_distance =
    quotient ∙ ap₂ (λ (x y : ℤ). nearest_div (x *ℤ pos R) (nat_abs y)) h.semidiameter.ensures.0 d.sin.ensures.value in
    simp (to_z-of_z, ok-fits n.result n.type_inv) (is, subst⁻¹ CorrectionSized is (correction-range a.radius_vector a.zenith_distance s.requires.0 (omega (arith, s.requires.1)) s.requires.2))
