-- Document 01, "Refusal numbers", refusal 1 (RULES.md, "Refusals"): what a shot from a card works on, the numbers of all fields where every field is
-- confirmed.
use Rattle.std.specs.Prelude.{Bool, true, ◌&&◌, Result, Ok, Err, List, [], ◌∷◌, map, ℕ, zero, suc, ℤ, pos, replicate}
use Rattle.refusal.specs.RefusalNumbers.{number_of}
use Rattle.refusal.specs.Tests.{Test, test, decided}
use Rattle.refusal.specs.declared.Refusal.{Refusal}
use Rattle.exact.specs.Nth.{nth}
use Rattle.card.specs.Fields.{is_confirmed, number_in, field_count, slot_index, field_at}
use Rattle.card.specs.declared.Field.{Field}
use Rattle.card.specs.declared.Card.{Card}

-- the k fields from index i on, in order; and so all fields of the card
unfoldable pub fields_from : Card → ℕ → ℕ → List Field
fields_from c i zero = []
fields_from c i (suc k) = field_at c i ∷ fields_from c (suc i) k

abbrev pub fields_of : Card → List Field
fields_of c = fields_from c 0 field_count

-- their numbers in the order of the fields, and the one among such numbers that is field f's
abbrev pub numbers_in : Card → List ℤ
numbers_in c = map number_in (fields_of c)

abbrev pub number_for : List ℤ → ℤ → ℤ
number_for numbers f = nth numbers (slot_index f)

-- whether they are all confirmed
unfoldable pub every_confirmed : List Field → Bool
every_confirmed [] = true
every_confirmed (f ∷ fs) = is_confirmed f && every_confirmed fs

abbrev pub all_confirmed : Card → Bool
all_confirmed c = every_confirmed (fields_of c)

-- what a shot from a card tests before it tests the numbers
abbrev pub card_tests : Card → List Test
card_tests c = test (all_confirmed c) 1 ∷ []

-- the refusal number, 0 where there is none, and the numbers, all of them 0 where it is refused
pub record ConfirmedValues : Type 0 where
  pub refusal : ℕ
  pub numbers : List ℤ

abbrev pub given : List ℤ → ConfirmedValues
given numbers = record { refusal = 0; numbers = numbers }

abbrev pub withheld : ℕ → ConfirmedValues
withheld k = record { refusal = k; numbers = replicate field_count (pos 0) }

abbrev pub confirmed_values : Result (List ℤ) Refusal → ConfirmedValues
confirmed_values (Ok numbers) = given numbers
confirmed_values (Err r) = withheld (number_of r)

abbrev pub confirmed_numbers : Card → ConfirmedValues
confirmed_numbers c = decided (card_tests c) (given (numbers_in c)) withheld
