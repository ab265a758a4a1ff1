-- The shot's refusal is handed on, or the angle decides.
use Rattle.std.proofs.lemmas.Result.{err_from_is_err_and}
use mathlib.Core.Path.{ap, ◌∙◌}
use native.Mathlib.Omega.{arith}
use mir.Facts.{to_z-of_z}
use Rattle.pointing.specs.Pointing.{pointed}
use Rattle.pointing.proofs.ByTheShot.{shot-refused}
use Rattle.pointing.proofs.pointing.Goals as goal

pub returns-in_err-a : goal.returns-in_err-a
returns-in_err-a c =
    let p = err_from_is_err_and c.from_residual.result c.from_residual.ensures.1 in
    rw (p.1, p.2) (shot-refused _ c.args.angle ∙ ap (λ v. pointed v c.args.angle) c.in_err-a.ensures.0, omega arith)

pub returns : goal.returns
returns c =
    let e = simp (to_z-of_z, c.ranges.angle) at c.pointed.ensures.0 in
    (e ∙ ap (λ v. pointed v c.args.angle) c.in_ok-a.ensures.0, c.pointed.ensures.1)
