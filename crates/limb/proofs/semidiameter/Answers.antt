-- 0.266994° of the mean distance, at r; the law `semidiameter-range` has its size.
use mathlib.Core.Path.{◌≡◌, subst⁻¹}
use mir.Facts.{to_z-of_z}
use Rattle.exact.specs.Division.{floor_div, nearest_div}
use Rattle.exact.proofs.Machine.{ok-fits}
use Rattle.limb.specs.Limb.{semidiameter}
use Rattle.limb.specs.Sizes.{SemidiameterSized}
use Rattle.limb.proofs.CorrectionRange.{semidiameter-range}
use Rattle.limb.proofs.semidiameter.Goals as goal

pub returns : goal.returns
unfolding semidiameter nearest_div floor_div
returns c =
    let s = c.before in
    let r = s.args.radius_vector in
    let d = c.at_distance in
    let is : d.result ≡ semidiameter r = d.ensures.0 in
    simp (to_z-of_z, ok-fits d.result d.type_inv) (is, subst⁻¹ SemidiameterSized is (semidiameter-range r s.requires))
