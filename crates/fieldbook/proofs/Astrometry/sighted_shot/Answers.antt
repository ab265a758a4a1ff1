-- What a sight was refused with is handed on, and what was seen is answered.
use Rattle.std.proofs.lemmas.Result.{err_from_is_err_and}
use mathlib.Core.Path.{refl, ap, ◌∙◌}
use Rattle.horizon.specs.Horizon.{sight_of}
use Rattle.fieldbook.specs.Shot.{view_at}
use Rattle.fieldbook.proofs.Bodies.{view-is}
use Rattle.fieldbook.proofs.Decided.{refused-reduced, refused-sight, answered-sight}
use Rattle.fieldbook.proofs.Astrometry.sighted_shot.Goals as goal

pub sight-requires : goal.sight-requires
sight-requires c = (c.requires.0, c.args.self.now.known.sidereal-size)

pub returns-in_err-sight : goal.returns-in_err-sight
returns-in_err-sight c =
    let k = c.args.self.now in
    let a = c.args in
    let p = err_from_is_err_and c.from_residual.result c.from_residual.ensures.1 in
    let e = c.in_err-sight.ensures.0 ∙ ap sight_of (view-is k a.position a.d) in
    rw (p.1, p.2) (refused-sight (view_at k.epochs a.position a.d) a.s _ e, refused-reduced 0)

pub returns : goal.returns
returns c =
    let k = c.args.self.now in
    let a = c.args in
    let r = c.in_ok-sight.ensures.1 in
    let e = c.in_ok-sight.ensures.0 ∙ ap sight_of (view-is k a.position a.d) in
    (answered-sight (view_at k.epochs a.position a.d) a.s _ refl e, (r.0, r.1, r.2, c.requires.1))
