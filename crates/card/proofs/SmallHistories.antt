-- Small histories with an undo, worked by the checker.
use mathlib.Core.Path.{◌≡◌, refl}
use mathlib.Core.List.{List, [], ◌∷◌}
use lib.IntN.{pos}
use Rattle.exact.specs.Range.{between}
use Rattle.card.specs.Fields.{DUT1, field_of, fresh_card, fresh_with_dut1_assumed_zero}
use Rattle.card.specs.declared.Field.TheVariants.{Empty, Heard, Confirmed}
use Rattle.card.specs.History.{Call, hear, confirm, undo, refusal, after_all}

-- a field that stood confirmed is so again, without a new reading
confirmed-again : field_of (after_all fresh_with_dut1_assumed_zero (hear DUT1 (pos 120) ∷ undo ∷ [])) DUT1 ≡ Confirmed (pos 0)
unfolding after_all field_of between
confirmed-again = refl

-- a refused hearing and a refused confirming do not disturb it
undisturbed : field_of (after_all fresh_with_dut1_assumed_zero (hear DUT1 (pos 120) ∷ hear (pos 1) (pos 10_000_000) ∷ confirm DUT1 ∷ undo ∷ [])) DUT1
    ≡ Confirmed (pos 0)
unfolding after_all field_of between
undisturbed = refl

-- a hearing that changes nothing is a hearing: the undo after it leaves the field heard
same-again : field_of (after_all fresh_card (hear DUT1 (pos 5) ∷ hear DUT1 (pos 5) ∷ undo ∷ [])) DUT1 ≡ Heard (pos 5)
unfolding after_all field_of between
same-again = refl

-- only the latest hearing is undone, and only once
abbrev latest_only : List Call
latest_only = hear DUT1 (pos 120) ∷ hear (pos 1) (pos 1978) ∷ undo ∷ []

latest-undone : field_of (after_all fresh_card latest_only) (pos 1) ≡ Empty
unfolding after_all field_of between
latest-undone = refl

earlier-stays : field_of (after_all fresh_card latest_only) DUT1 ≡ Heard (pos 120)
unfolding after_all field_of between
earlier-stays = refl

only-once : refusal (after_all fresh_card latest_only) undo ≡ 18
unfolding after_all field_of between
only-once = refl

-- neither start has anything to undo
nothing_yet : (refusal fresh_card undo ≡ 18) × (refusal fresh_with_dut1_assumed_zero undo ≡ 18)
nothing_yet = (refl, refl)
