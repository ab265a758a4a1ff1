use mathlib.Core.Path.{◌≡◌, sym, ◌∙◌}
use native.Mathlib.Omega.{arith}
use mir.Facts.{to_z-of_z}
use mir.Syntax.{w64}
use mir.Val.{SFits}
use Rattle.site.specs.Site.{is_latitude, is_site}
use Rattle.site.proofs.is_site.Goals as goal

pub returns-then-between : goal.returns-then-between
unfolding is_site
returns-then-between c =
    let f : SFits w64 c.args.site.latitude = record { sfits = omega arith } in
    let g : SFits w64 c.args.site.longitude = record { sfits = omega arith } in
    let e : c.between.result ≡ is_latitude c.args.site.latitude = simp (to_z-of_z, f) at c.between.ensures in
    simp (sym e ∙ c.if-between.true) (simp (to_z-of_z, g) at c.between-then-between.ensures)

pub returns-else-between : goal.returns-else-between
unfolding is_site
returns-else-between c =
    let f : SFits w64 c.args.site.latitude = record { sfits = omega arith } in
    let e : c.between.result ≡ is_latitude c.args.site.latitude = simp (to_z-of_z, f) at c.between.ensures in
    simp (sym e ∙ c.if-between.false) c.if-between.false
