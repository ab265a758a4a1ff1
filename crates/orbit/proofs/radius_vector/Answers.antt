-- The eccentricity, and the cosine of the true anomaly, give r.
use mathlib.Core.Path.{◌≡◌, refl, ap, ap₂, subst⁻¹, ◌∙◌}
use mathlib.Core.List.{List}
use Prim.Native.Nat.{◌<◌}
use lib.IntN.{ℤ, pos, nat_abs, ◌+ℤ◌}
use lib.ListN.{get_or}
use mir.Facts.{to_z-of_z}
use mir.Syntax.{w64}
use mir.Val.{SFits}
use Rattle.exact.specs.Reduction.{turn, reduced}
use Rattle.exact.proofs.Machine.{ok-fits, fits_lt}
use Rattle.sine.specs.Sine.{Cos}
use Rattle.epoch.specs.Epoch.{Epoch}
use Rattle.epoch.proofs.Sizes.{q-size, q-fits}
use Rattle.arguments.specs.PrintedArguments.{Ms, arguments_of}
use Rattle.arguments.specs.Sizes.{IsArguments}
use Rattle.arguments.proofs.AllReduced.{are-arguments}
use Rattle.orbit.specs.Orbit.{true_anomaly, eccentricity, radius_by, radius_vector}
use Rattle.orbit.proofs.radius_vector.Goals.{After-cos, After-eccentricity, After-true_angle-v, Start}
use Rattle.orbit.proofs.radius_vector.Goals as goal

module _ (s : Start) where
  abbrev anomaly : ℤ
  anomaly = get_or s.args.arguments.now Ms (pos 0)

  anomaly-small : nat_abs anomaly < turn
  anomaly-small = (subst⁻¹ IsArguments s.requires.0 (are-arguments s.args.e)).reduced Ms

  anomaly-fits : SFits w64 anomaly
  anomaly-fits = fits_lt turn anomaly anomaly-small refl

-- ---- what the three calls gave
module _ (c : After-cos) where
  abbrev after-eccentricity : After-eccentricity
  after-eccentricity = c.before

  abbrev after-anomaly : After-true_angle-v
  after-anomaly = after-eccentricity.before.before

  abbrev start : Start
  start = after-anomaly.before.before

  fits : SFits w64 after-eccentricity.eccentricity.result × SFits w64 c.cos.result
  fits = (ok-fits _ after-eccentricity.eccentricity.type_inv, ok-fits _ c.cos.type_inv)

  eccentricity-is : after-eccentricity.eccentricity.result ≡ eccentricity start.args.e.q
  eccentricity-is =
      let e = c.e in
      (simp (to_z-of_z, q-fits e.invariant) at after-eccentricity.eccentricity.ensures.0) ∙ ap (λ (e : Epoch). eccentricity e.q) e.view_is

  anomaly-is : after-anomaly.true_angle-v.result ≡ true_anomaly (arguments_of start.args.e) start.args.e.q
  unfolding true_anomaly
  anomaly-is =
      let s = start in
      let is = simp (to_z-of_z, anomaly-fits s, s.ranges.equation) at after-anomaly.true_angle-v.ensures.0 in
      is ∙ ap₂ (λ (l : List ℤ) (c : ℤ). reduced (get_or l Ms (pos 0) +ℤ c)) s.requires.0 s.requires.1.0

pub true_angle-v-requires : goal.true_angle-v-requires
true_angle-v-requires c =
    let s = c.before in
    simp (to_z-of_z, anomaly-fits s, s.ranges.equation) (anomaly-small s, s.requires.1.1)

pub eccentricity-requires : goal.eccentricity-requires
eccentricity-requires c =
    simp (to_z-of_z, q-fits c.e.invariant) (q-size c.e.invariant)

pub returns : goal.returns
unfolding radius_vector
returns c =
    let d = c.before in
    let r = c.radius_by in
    let is = simp (to_z-of_z, (fits d).0, (fits d).1) at r.ensures.0 in
    (is ∙ ap₂ radius_by (eccentricity-is d) (d.cos.ensures.0 ∙ ap Cos (anomaly-is d)), r.ensures.1)
