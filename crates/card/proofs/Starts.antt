-- What stands on the two starting cards: on a fresh one nothing, on the one with DUT1 assumed zero DUT1's 0 alone.
use mathlib.Core.Path.{◌≡◌, refl, sym, ◌∙◌}
use mathlib.Core.Bool.{Bool, true, false}
use mathlib.Core.Logic.{◌≢◌}
use Rattle.std.specs.Prelude.{None}
use lib.IntN.{ℤ, pos}
use lib.ListN.{get_or-replicate}
use Rattle.exact.specs.Range.{between}
use Rattle.card.specs.Fields.{field_count, is_field, slot_index, field_of, fresh_card, DUT1, fresh_with_dut1_assumed_zero}
use Rattle.card.specs.declared.Field.TheVariants.{Empty, Confirmed}
use Rattle.card.proofs.FieldNumbers.{index_below, field_found, no_field}
use Rattle.card.proofs.OneCall.{put_other}

empty-at : (f : ℤ) (b : Bool) → is_field f ≡ b → field_of fresh_card f ≡ Empty
empty-at f false e = sym (no_field f e fresh_card)
empty-at f true e =
    let at = get_or-replicate field_count (slot_index f) Empty Empty (index_below f e) in
    sym (field_found f e fresh_card) ∙ at

pub fresh-is-empty : (f : ℤ) → field_of fresh_card f ≡ Empty
fresh-is-empty f = empty-at f (is_field f) refl

pub assumed-dut1 : field_of fresh_with_dut1_assumed_zero DUT1 ≡ Confirmed (pos 0)
unfolding field_of between
assumed-dut1 = refl

dut1-is-field : is_field DUT1 ≡ true
unfolding between
dut1-is-field = refl

pub others-are-empty : (f : ℤ) → f ≢ DUT1 → field_of fresh_with_dut1_assumed_zero f ≡ Empty
others-are-empty f n = put_other fresh_card f DUT1 (Confirmed (pos 0)) None dut1-is-field n ∙ fresh-is-empty f
