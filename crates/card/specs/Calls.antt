-- Document 01, "The card" and "Refusal numbers"; document 02, request 6 (RULES.md, "The card" and "Refusals"): what hearing, reading, confirming and
-- undoing answer, for every card and all arguments. That is the refusal number, 0 where the call is accepted, the card and the buffer afterwards. A
-- refusal changes neither.
use Rattle.std.specs.Prelude.{Bool, false, Option, Some, None, Result, Ok, Err, List, [], ◌∷◌, ◌++◌, ℕ, ℤ, pos, neg_ℤ, length}
use Rattle.refusal.specs.RefusalNumbers.{number_of, verdict_number}
use Rattle.refusal.specs.Tests.{Test, test, decided}
use Rattle.exact.specs.Range.{between}
use Rattle.digits.specs.Text.{text}
use Rattle.digits.specs.Writing.{fits, over}
use Rattle.refusal.specs.declared.Refusal.{Refusal}
use Rattle.card.specs.Fields.{is_held, is_read, number_in, is_field, slot_index, field_of, put, keeping, Before}
use Rattle.card.specs.declared.Field.{Field}
use Rattle.card.specs.declared.Field.TheVariants.{Empty, Heard, Read, Confirmed}
use Rattle.card.specs.declared.Latest.{Latest}
use Rattle.card.specs.declared.Card.{Card}

-- ---- the answers
-- of hearing, confirming and undoing
pub record CardValues : Type 0 where
  pub refusal : ℕ
  pub card : Card

abbrev pub card_values : Result Unit Refusal → Card → CardValues
card_values r c = record { refusal = verdict_number r; card = c }

abbrev pub accepted : Card → CardValues
accepted c = record { refusal = 0; card = c }

abbrev pub refused : Card → ℕ → CardValues
refused c k = record { refusal = k; card = c }

-- of reading: also the length of the text, 0 where it is refused
pub record ReadValues : Type 0 where
  pub refusal : ℕ
  pub length : ℕ
  pub card : Card

abbrev pub read_values : Result ℕ Refusal → Card → ReadValues
read_values (Ok k) c = record { refusal = 0; length = k; card = c }
read_values (Err r) c = record { refusal = number_of r; length = 0; card = c }

abbrev pub written_out : ℕ → Card → ReadValues
written_out k c = record { refusal = 0; length = k; card = c }

abbrev pub not_written : Card → ℕ → ReadValues
not_written c k = record { refusal = k; length = 0; card = c }

-- ---- hearing: a number of at most seven digits comes into a field, which is heard from then on; what stood there is kept for an undo, in place of
-- what was kept before
abbrev pub largest_heard : ℕ
largest_heard = 9_999_999

abbrev pub can_be_heard : ℤ → Bool
can_be_heard z = between (neg_ℤ (pos largest_heard)) z (pos largest_heard)

abbrev pub hear_tests : ℤ → ℤ → List Test
hear_tests f z = test (is_field f) 9 ∷ test (can_be_heard z) 13 ∷ []

abbrev pub hear_card : Card → ℤ → ℤ → Card
hear_card c f z = keeping (put c (slot_index f) (Heard z)) (Before f (field_of c f))

abbrev pub hear : Card → ℤ → ℤ → CardValues
hear c f z = decided (hear_tests f z) (accepted (hear_card c f z)) (refused c)

-- ---- reading: the text of the number that the field holds is written from a place of the buffer on
-- of the states it moves one alone, from heard to read
abbrev pub read_state : Field → Field
read_state Empty = Empty
read_state (Heard z) = Read z
read_state (Read z) = Read z
read_state (Confirmed z) = Confirmed z

abbrev pub read_card : Card → ℤ → Card
read_card c f = put c (slot_index f) (read_state (field_of c f))

-- what is asked of the field, and then of the buffer
abbrev pub held_tests : Card → ℤ → List Test
held_tests c f = test (is_field f) 9 ∷ test (is_held (field_of c f)) 10 ∷ []

abbrev pub read_tests : Card → ℤ → List ℕ → ℕ → List Test
read_tests c f buffer place = held_tests c f ++ test (fits buffer place (number_in (field_of c f))) 11 ∷ []

abbrev pub read : Card → ℤ → List ℕ → ℕ → ReadValues
read c f buffer place = decided (read_tests c f buffer place) (written_out (length (text (number_in (field_of c f)))) (read_card c f)) (not_written c)

-- the buffer after reading: the text stands in it, and every other byte is kept
abbrev pub buffer_after : Card → ℤ → List ℕ → ℕ → List ℕ
buffer_after c f buffer place = decided (read_tests c f buffer place) (over buffer place (text (number_in (field_of c f)))) (λ k. buffer)

-- ---- confirming: read becomes confirmed
abbrev pub confirm_tests : Card → ℤ → List Test
confirm_tests c f = test (is_field f) 9 ∷ test (is_read (field_of c f)) 12 ∷ []

abbrev pub confirm : Card → ℤ → CardValues
confirm c f = decided (confirm_tests c f) (accepted (put c (slot_index f) (Confirmed (number_in (field_of c f))))) (refused c)

-- ---- undoing: the field of the latest accepted hearing is again what it was before, state and number, and after that there is nothing to undo
-- (no hearing keeps a number that no field has; a card that had one would have nothing to undo)
abbrev pub can_undo : Option Latest → Bool
can_undo None = false
can_undo (Some l) = is_field l.field

abbrev pub put_back : Card → Option Latest → Card
put_back c None = c
put_back c (Some l) = put c (slot_index l.field) l.before

abbrev pub undo_card : Card → Card
undo_card c = keeping (put_back c c.latest) None

abbrev pub undo_tests : Card → List Test
undo_tests c = test (can_undo c.latest) 18 ∷ []

abbrev pub undo : Card → CardValues
undo c = decided (undo_tests c) (accepted (undo_card c)) (refused c)
