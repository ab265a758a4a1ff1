-- `R` answers the text of the number that the field holds, whatever the card: in every run, and with no room to run out of.
use mathlib.Core.Path.{◌≡◌}
use mathlib.Core.Bool.{true}
use lib.IntN.{ℤ}
use Rattle.digits.specs.Text.{text}
use Rattle.card.specs.Fields.{is_held, number_in, is_field, field_of}
use Rattle.card.specs.declared.Card.{Card}
use Rattle.replies.specs.Answers.{read_text, command_text}
use Rattle.replies.specs.declared.Command.TheVariants.{Read}

pub read-answers-text : (c : Card) (f : ℤ) → is_field f ≡ true → is_held (field_of c f) ≡ true → command_text (Read f) c ≡ text (number_in (field_of c f))
unfolding read_text
read-answers-text c f e h = rw (e, h)
