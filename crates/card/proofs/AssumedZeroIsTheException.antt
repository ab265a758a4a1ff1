-- DUT1's assumed 0 is the one exception. After any calls from the start with DUT1 assumed zero: where field f stands confirmed with n, n was heard for
-- f, read out and confirmed as proofs/ConfirmedWasReadOut.antt tells it, or f is DUT1, n is 0, and no hearing for DUT1 stands. The same of the numbers
-- that a shot takes.
use mathlib.Core.Path.{◌≡◌, refl, ap, ◌∙◌}
use mathlib.Core.Bool.{true}
use mathlib.Core.Logic.{◌⊎◌, inl, inr}
use mathlib.Core.List.{List}
use lib.IntN.{ℤ, pos, ℤ_discrete}
use Rattle.card.specs.Fields.{is_field, field_of, DUT1, fresh_with_dut1_assumed_zero}
use Rattle.card.specs.Confirmed.{numbers_in, number_for, all_confirmed}
use Rattle.card.specs.History.{Call, after_all, HeardAmong, Story, stood_confirmed, stood_read, stood_heard, was_heard, AssumedZero}
use Rattle.card.specs.declared.Field.TheVariants.{Confirmed}
use Rattle.card.proofs.Starts.{assumed-dut1, others-are-empty}
use Rattle.card.proofs.ConfirmedWasReadOut.{settled-was-read-out, empty-was-read-out}
use Rattle.card.proofs.ShotNumbersWereReadOut.{stands-confirmed}
use Rattle.card.proofs.Clash.{clash}

module _ (calls : List Call) (f n : ℤ) where
  of-dut1 : f ≡ DUT1 → field_of fresh_with_dut1_assumed_zero f ≡ Confirmed (pos 0) → Story fresh_with_dut1_assumed_zero f n calls
      → AssumedZero calls f n ⊎ HeardAmong fresh_with_dut1_assumed_zero f n calls
  of-dut1 d e (stood_confirmed k q) = inl (record { field = d; number = cc; nothing_stands = q })
  of-dut1 d e (stood_read k q) = clash (cc)
  of-dut1 d e (stood_heard k q) = clash (cc)
  of-dut1 d e (was_heard r) = inr r

  by_field : Dec (f ≡ DUT1) → field_of (after_all fresh_with_dut1_assumed_zero calls) f ≡ Confirmed n
      → AssumedZero calls f n ⊎ HeardAmong fresh_with_dut1_assumed_zero f n calls
  by_field (yes d) e =
      of-dut1 d (ap (field_of fresh_with_dut1_assumed_zero) d ∙ assumed-dut1) (settled-was-read-out fresh_with_dut1_assumed_zero calls f n refl refl e)
  by_field (no d) e = inr (empty-was-read-out fresh_with_dut1_assumed_zero calls f n refl refl (others-are-empty f d) e)

  pub assumed-zero-or-read-out : field_of (after_all fresh_with_dut1_assumed_zero calls) f ≡ Confirmed n
      → AssumedZero calls f n ⊎ HeardAmong fresh_with_dut1_assumed_zero f n calls
  assumed-zero-or-read-out = by_field (ℤ_discrete f DUT1)

pub shot-has-assumed-zero-or-read-out : (calls : List Call) → all_confirmed (after_all fresh_with_dut1_assumed_zero calls) ≡ true
    → (f : ℤ) → is_field f ≡ true
    → (AssumedZero calls f (number_for (numbers_in (after_all fresh_with_dut1_assumed_zero calls)) f)
    ⊎ HeardAmong fresh_with_dut1_assumed_zero f (number_for (numbers_in (after_all fresh_with_dut1_assumed_zero calls)) f) calls)
shot-has-assumed-zero-or-read-out calls all f e =
    let d = after_all fresh_with_dut1_assumed_zero calls in
    assumed-zero-or-read-out calls f (number_for (numbers_in d) f) (stands-confirmed d f e all)
