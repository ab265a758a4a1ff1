-- RULES.md, "A card in words": a card in words of 64 bits, and which words are a card.
use Rattle.std.specs.Prelude.{Bool, true, cond, ◌&&◌, Option, Some, None, List, [], ◌∷◌, ◌++◌, ℕ, zero, suc, ◌+◌, ◌*◌, eqb, ℤ, pos, length}
use Rattle.exact.specs.Range.{between, same}
use Rattle.exact.specs.Nth.{nth}
use Rattle.card.specs.Fields.{number_in, field_count, is_field, Before, from_parts}
use Rattle.card.specs.Calls.{can_be_heard}
use Rattle.card.specs.Confirmed.{fields_of}
use Rattle.card.specs.declared.Field.{Field}
use Rattle.card.specs.declared.Field.TheVariants.{Empty, Heard, Read, Confirmed}
use Rattle.card.specs.declared.Latest.{Latest}
use Rattle.card.specs.declared.Card.{Card}

-- two for each field, and three for what an undo puts back
abbrev pub word_count : ℕ
word_count = 25

-- ---- the words of a card
-- of a field: the number of its state, and its number
abbrev pub state_number : Field → ℤ
state_number Empty = pos 0
state_number (Heard z) = pos 1
state_number (Read z) = pos 2
state_number (Confirmed z) = pos 3

abbrev pub field_words : Field → List ℤ
field_words v = state_number v ∷ number_in v ∷ []

unfoldable pub words_of : List Field → List ℤ
words_of [] = []
words_of (f ∷ fs) = field_words f ++ words_of fs

-- of what an undo puts back: the field's number, and the words of what it was; 0 and an empty field where there is nothing to undo
abbrev pub latest_field : Option Latest → ℤ
latest_field None = pos 0
latest_field (Some l) = l.field

abbrev pub latest_before : Option Latest → Field
latest_before None = Empty
latest_before (Some l) = l.before

abbrev pub latest_words : Option Latest → List ℤ
latest_words l = latest_field l ∷ field_words (latest_before l)

abbrev pub card_words : Card → List ℤ
card_words c = words_of (fields_of c) ++ latest_words c.latest

-- ---- which words are a card, and which card
-- two words are a field's where the first is a state's number and the second can be heard; with an empty field it is 0
abbrev pub is_field_words : ℤ → ℤ → Bool
is_field_words s z = cond (same s (pos 0)) (same z (pos 0)) (between (pos 1) s (pos 3) && can_be_heard z)

abbrev pub field_from : ℤ → ℤ → Field
field_from s z = cond (same s (pos 1)) (Heard z) (cond (same s (pos 2)) (Read z) (cond (same s (pos 3)) (Confirmed z) Empty))

-- the field that two words say, if they are a field's
abbrev pub field_said : ℤ → ℤ → Option Field
field_said s z = cond (is_field_words s z) (Some (field_from s z)) None

-- three words say what an undo puts back where the first is a field's number and the others are a field's; with nothing to undo all are 0
abbrev pub is_latest_words : ℤ → ℤ → ℤ → Bool
is_latest_words f s z = cond (same f (pos 0)) (same s (pos 0) && same z (pos 0)) (is_field f && is_field_words s z)

abbrev pub latest_from : ℤ → ℤ → ℤ → Option Latest
latest_from f s z = cond (same f (pos 0)) None (Before f (field_from s z))

-- what three words say of it, if they say it
abbrev pub latest_said : ℤ → ℤ → ℤ → Option (Option Latest)
latest_said f s z = cond (is_latest_words f s z) (Some (latest_from f s z)) None

-- of words, the k fields from index i on: whether they are fields', and the fields
unfoldable pub are_fields : List ℤ → ℕ → ℕ → Bool
are_fields ws i zero = true
are_fields ws i (suc k) = is_field_words (nth ws (2 * i)) (nth ws (2 * i + 1)) && are_fields ws (suc i) k

unfoldable pub fields_in : List ℤ → ℕ → ℕ → List Field
fields_in ws i zero = []
fields_in ws i (suc k) = field_from (nth ws (2 * i)) (nth ws (2 * i + 1)) ∷ fields_in ws (suc i) k

-- the fields that words say, if they are fields'
abbrev pub fields_said : List ℤ → Option (List Field)
fields_said ws = cond (are_fields ws 0 field_count) (Some (fields_in ws 0 field_count)) None

-- where what an undo puts back begins
abbrev pub latest_place : ℕ
latest_place = 22

abbrev pub is_card : List ℤ → Bool
is_card ws =
    eqb (length ws) word_count
    && (is_latest_words (nth ws latest_place) (nth ws (latest_place + 1)) (nth ws (latest_place + 2)) && are_fields ws 0 field_count)

abbrev pub card_of : List ℤ → Card
card_of ws = from_parts (fields_in ws 0 field_count) (latest_from (nth ws latest_place) (nth ws (latest_place + 1)) (nth ws (latest_place + 2)))

-- the card that words are, if they are one
abbrev pub restored_from : List ℤ → Option Card
restored_from ws = cond (is_card ws) (Some (card_of ws)) None
