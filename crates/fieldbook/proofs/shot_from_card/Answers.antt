-- Refusal 1, or the shot with the confirmed numbers.
use Rattle.std.proofs.lemmas.Result.{err_from_is_err_and}
use mathlib.Core.Path.{ap, ◌∙◌}
use Rattle.card.specs.Confirmed.{ConfirmedValues}
use Rattle.fieldbook.specs.Shot.{shot}
use Rattle.fieldbook.proofs.Decided.{refused-reduced, refused-card, confirmed-card}
use Rattle.fieldbook.proofs.shot_from_card.Goals as goal

pub returns-in_err-fields : goal.returns-in_err-fields
returns-in_err-fields c =
    let p = err_from_is_err_and c.from_residual.result c.from_residual.ensures.1 in
    let e = ap (λ (a : ConfirmedValues). a.refusal) c.in_err-fields.ensures in
    rw (p.1, p.2) (refused-card c.args.card.now c.args.options _ e, refused-reduced 1)

pub returns : goal.returns
returns c =
    (c.shot.ensures.0 ∙ ap shot c.query_with.ensures ∙ confirmed-card c.args.card.now c.args.options _ c.in_ok-fields.ensures, c.shot.ensures.1)
