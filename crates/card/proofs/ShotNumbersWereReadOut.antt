-- Every number of a shot was read out. After any calls from any card: where a shot from the card goes on, the number that the shot takes for a field
-- has its story, as proofs/ConfirmedWasReadOut.antt tells it. From a fresh card: it was heard for that field, read out and confirmed.
use mathlib.Core.Path.{◌≡◌, sym, ap, ◌∙◌}
use mathlib.Core.Bool.{true}
use mathlib.Core.Logic.{◌⊎◌}
use mathlib.Core.List.{List, [], ◌∷◌}
use Prim.Native.Nat.{ℕ, zero, suc, ◌+◌, ◌<◌}
use native.Mathlib.Omega.{arith}
use lib.IntN.{ℤ}
use lib.ListN.{length, get_or, get_or-map}
use Rattle.exact.proofs.Machine.{and-true}
use Rattle.card.specs.Fields.{is_confirmed, number_in, field_count, is_field, slot_index, field_at, field_of, Full, fresh_card}
use Rattle.card.specs.Confirmed.{fields_from, fields_of, numbers_in, number_for, every_confirmed, all_confirmed}
use Rattle.card.specs.History.{Call, after_all, HeardAmong, Story, PutBackAmong}
use Rattle.card.specs.declared.Field.{Field}
use Rattle.card.specs.declared.Field.TheVariants.{Empty, Confirmed}
use Rattle.card.specs.declared.Card.{Card}
use Rattle.card.proofs.ConfirmedWasReadOut.{confirmed-was-read-out, fresh-was-read-out}
use Rattle.card.proofs.FieldNumbers.{index_below, field_found}
use Rattle.card.proofs.States.{is-confirmed}

-- where all are confirmed, each is
each : (fs : List Field) (i : ℕ) → i < length fs → every_confirmed fs ≡ true → is_confirmed (get_or fs i Empty) ≡ true
unfolding every_confirmed
each [] i h e = absurd (omega arith)
each (f ∷ fs) zero h e = (and-true (is_confirmed f) (every_confirmed fs) e).0
each (f ∷ fs) (suc i) h e = each fs i (omega arith) (and-true (is_confirmed f) (every_confirmed fs) e).1

-- the fields are listed by their indices
listed : (c : Card) (i k j : ℕ) → j < k → get_or (fields_from c i k) j Empty ≡ field_at c (i + j)
unfolding fields_from
listed c i zero j h = absurd (omega arith)
listed c i (suc k) zero h = let e : i ≡ i + 0 = omega arith in ap (field_at c) e
listed c i (suc k) (suc j) h = let e : suc i + j ≡ i + suc j = omega arith in listed c (suc i) k j (omega arith) ∙ ap (field_at c) e

module _ (c : Card) (f : ℤ) (e : is_field f ≡ true) where
  -- field f stands at its index in the list of the fields, and so does its number among the numbers
  in_order : get_or (fields_of c) (slot_index f) Empty ≡ field_of c f
  in_order = let z : 0 + slot_index f ≡ slot_index f = omega arith in listed c 0 field_count (slot_index f) (index_below f e) ∙ ap (field_at c) z ∙ field_found f e c

  pub number-for : number_for (numbers_in c) f ≡ number_in (field_of c f)
  number-for = get_or-map number_in (fields_of c) (slot_index f) Empty ∙ ap number_in in_order

  pub stands-confirmed : all_confirmed c ≡ true → field_of c f ≡ Confirmed (number_for (numbers_in c) f)
  unfolding fields_from
  stands-confirmed all =
      is-confirmed (field_of c f) (ap is_confirmed (sym in_order) ∙ each (fields_of c) (slot_index f) (index_below f e) all) ∙ ap Confirmed (sym number-for)

-- ---- from any card
pub shot-numbers-were-read-out : (c : Card) (calls : List Call) → Full c → all_confirmed (after_all c calls) ≡ true
    → (f : ℤ) → is_field f ≡ true
    → (Story c f (number_for (numbers_in (after_all c calls)) f) calls ⊎ PutBackAmong c f (number_for (numbers_in (after_all c calls)) f) calls)
shot-numbers-were-read-out c calls l all f e =
    let d = after_all c calls in
    confirmed-was-read-out c calls f (number_for (numbers_in d) f) l (stands-confirmed d f e all)

-- ---- from a fresh card
pub fresh-shot-numbers-were-read-out : (calls : List Call) → all_confirmed (after_all fresh_card calls) ≡ true
    → (f : ℤ) → is_field f ≡ true → HeardAmong fresh_card f (number_for (numbers_in (after_all fresh_card calls)) f) calls
fresh-shot-numbers-were-read-out calls all f e =
    let d = after_all fresh_card calls in
    fresh-was-read-out calls f (number_for (numbers_in d) f) (stands-confirmed d f e all)
