-- The longitude of the edition's first sum, by the arguments that both editions share.
use mathlib.Core.Path.{ap, ap₂, subst⁻¹, ◌∙◌}
use mathlib.Core.List.{List}
use lib.IntN.{ℤ, ◌+ℤ◌, ◌-ℤ◌}
use mir.Facts.{to_z-of_z}
use Rattle.exact.specs.Reduction.{reduced}
use Rattle.exact.proofs.Machine.{ok-fits}
use Rattle.arguments.specs.Sizes.{IsArguments}
use Rattle.arguments.proofs.AllReduced.{are-arguments}
use Rattle.frame.specs.Nutation.{dpsi}
use Rattle.sun.specs.Longitude.{mean_longitude, first_sum}
use Rattle.sun.proofs.LongitudeBound.{is-longitude}
use Rattle.sun.proofs.apparent_longitude.Goals as goal

pub longitude_by-requires : goal.longitude_by-requires
longitude_by-requires c =
    let all = subst⁻¹ IsArguments c.requires.0 (are-arguments c.args.e) in
    let f = c.first_sum in
    simp (to_z-of_z, ok-fits f.result f.type_inv, c.ranges.dpsi, c.ranges.aberration) (all, f.ensures.1, c.requires.1.1, c.requires.2)

pub returns : goal.returns
returns c =
    let f = c.first_sum in
    let a = c.args in
    let e = a.e in
    let k = a.aberration in
    let l = a.arguments.now in
    let is = simp (to_z-of_z, ok-fits f.result f.type_inv, c.ranges.dpsi, c.ranges.aberration) at c.longitude_by.ensures.0 in
    let first = simp (to_z-of_z, c.ranges.edition) at f.ensures.0 in
    is-longitude a.edition k e c.longitude_by.result f.ensures.2
    (is
    ∙ ap₂ (λ (x n : ℤ). reduced (mean_longitude l +ℤ x +ℤ n -ℤ k)) first c.requires.1.0
    ∙ ap (λ (l : List ℤ). reduced (mean_longitude l +ℤ first_sum a.edition e +ℤ dpsi l e.q -ℤ k)) c.requires.0)
    c.longitude_by.ensures.1
