use Rattle.std.proofs.Common.{sym, ap, ◌∙◌, to_z-of_z}
use Rattle.card.specs.Calls.{read, buffer_after}
use Rattle.lent_card.specs.LentCard.{read_into_words, not_read}
use Rattle.lent_card.proofs.ByCard.{with}
use Rattle.lent_card.proofs.read.Goals as goal

pub returns-in-Err-clause-words_after : goal.returns-in-Err-clause-words_after
returns-in-Err-clause-words_after c =
    let a = c.args in
    let card = c.in-Some.card in
    (λ j. record { refusal = c.from.ensures.0 j; length = 0; words = c.to_words.ensures j })
    ∙ ap read_into_words (c.in-Err.ensures.result_value ∙ ap (λ f. read card f a.buffer.now a.place) (to_z-of_z c.ranges.field))
    ∙ with a.words.now (λ d. read_into_words (read d a.field a.buffer.now a.place)) (not_read a.words.now) card (sym c.in-Some.is ∙ c.restore.ensures)

pub returns-in-Err-clause-buffer_after : goal.returns-in-Err-clause-buffer_after
returns-in-Err-clause-buffer_after c =
    let a = c.args in
    let card = c.in-Some.card in
    c.in-Err.ensures.buf_after
    ∙ ap (λ f. buffer_after card f a.buffer.now a.place) (to_z-of_z c.ranges.field)
    ∙ with a.words.now (λ d. buffer_after d a.field a.buffer.now a.place) (λ k. a.buffer.now) card (sym c.in-Some.is ∙ c.restore.ensures)

pub returns-in-Ok-clause-words_after : goal.returns-in-Ok-clause-words_after
returns-in-Ok-clause-words_after c =
    let a = c.args in
    let card = c.in-Some.card in
    (λ j. record { refusal = 0; length = c.in-Ok.length; words = c.to_words.ensures j })
    ∙ ap read_into_words (c.in-Ok.ensures.result_value ∙ ap (λ f. read card f a.buffer.now a.place) (to_z-of_z c.ranges.field))
    ∙ with a.words.now (λ d. read_into_words (read d a.field a.buffer.now a.place)) (not_read a.words.now) card (sym c.in-Some.is ∙ c.restore.ensures)

pub returns-in-Ok-clause-buffer_after : goal.returns-in-Ok-clause-buffer_after
returns-in-Ok-clause-buffer_after c =
    let a = c.args in
    let card = c.in-Some.card in
    c.in-Ok.ensures.buf_after
    ∙ ap (λ f. buffer_after card f a.buffer.now a.place) (to_z-of_z c.ranges.field)
    ∙ with a.words.now (λ d. buffer_after d a.field a.buffer.now a.place) (λ k. a.buffer.now) card (sym c.in-Some.is ∙ c.restore.ensures)
