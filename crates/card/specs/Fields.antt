-- Document 01, "The card"; document 02, requests 3 (field 11), 4 (the start) and 6 (undo) (RULES.md, "Fields" and "The card"): the card, its fields,
-- their states, what it keeps for an undo, and what stands on it at the start.
use Rattle.std.specs.Prelude.{◌≡◌, Bool, true, false, cond, Option, Some, None, Result, Ok, Err, List, ℕ, ◌-◌, ℤ, pos, nat_abs, length, get_or, set, replicate}
use Rattle.refusal.specs.declared.Refusal.{Refusal}
use Rattle.refusal.specs.declared.Refusal.TheVariants.{NoField}
use Rattle.exact.specs.Range.{between}
use Rattle.card.specs.declared.Field.{Field}
use Rattle.card.specs.declared.Field.TheVariants.{Empty, Heard, Read, Confirmed}
use Rattle.card.specs.declared.Latest.{Latest}
use Rattle.card.specs.declared.Card.{Card}

-- ---- the states of a field
-- each holds a number, empty aside
abbrev pub is_held : Field → Bool
is_held Empty = false
is_held (Heard z) = true
is_held (Read z) = true
is_held (Confirmed z) = true

abbrev pub is_read : Field → Bool
is_read Empty = false
is_read (Heard z) = false
is_read (Read z) = true
is_read (Confirmed z) = false

abbrev pub is_confirmed : Field → Bool
is_confirmed Empty = false
is_confirmed (Heard z) = false
is_confirmed (Read z) = false
is_confirmed (Confirmed z) = true

-- the number that a field holds; an empty one holds none
abbrev pub number_held : Field → Option ℤ
number_held Empty = None
number_held (Heard z) = Some z
number_held (Read z) = Some z
number_held (Confirmed z) = Some z

-- as a number alone; no answer uses the 0 of an empty one
abbrev pub number_in : Field → ℤ
number_in Empty = pos 0
number_in (Heard z) = z
number_in (Read z) = z
number_in (Confirmed z) = z

-- ---- the card
-- the fields' numbers are 1 to field_count
abbrev pub field_count : ℕ
field_count = 11

abbrev pub is_field : ℤ → Bool
is_field f = between (pos 1) f (pos field_count)

-- the index of field number f on the card: one less than its number
abbrev pub slot_index : ℤ → ℕ
slot_index f = nat_abs f - 1

-- the same, or the refusal of a number that no field has
abbrev pub index_of : ℤ → Result ℕ Refusal
index_of f = cond (is_field f) (Ok (slot_index f)) (Err NoField)

-- what stands at an index
abbrev pub field_at : Card → ℕ → Field
field_at c i = get_or c.fields i Empty

-- the state of field number f; a number that no field has is as good as empty
unfoldable pub field_of : Card → ℤ → Field
field_of c f = cond (is_field f) (field_at c (slot_index f)) Empty

-- the card with another field at an index, and with something else to undo
abbrev pub put : Card → ℕ → Field → Card
put c i f = record { fields = set c.fields i f; latest = c.latest }

abbrev pub keeping : Card → Option Latest → Card
keeping c l = record { fields = c.fields; latest = l }

-- what is kept for an undo: the number of the field of the latest accepted hearing, and what it was before
abbrev pub Before : ℤ → Field → Option Latest
Before f v = Some (record { field = f; before = v })

-- a card of its parts
abbrev pub from_parts : List Field → Option Latest → Card
from_parts fields l = record { fields = fields; latest = l }

-- a card has each of the fields. In the code the array's type says so
abbrev pub Full : Card → Type 0
Full c = length c.fields ≡ field_count

-- ---- the start
-- every field is empty, and there is nothing to undo
abbrev pub fresh_card : Card
fresh_card = record { fields = replicate field_count Empty; latest = None }

-- an older start: DUT1, field 7, stands confirmed as 0 ms, every other field is empty, and there is nothing to undo
abbrev pub DUT1 : ℤ
DUT1 = pos 7

abbrev pub fresh_with_dut1_assumed_zero : Card
fresh_with_dut1_assumed_zero = put fresh_card (slot_index DUT1) (Confirmed (pos 0))
