-- Held numbers are small. Whatever calls follow one another from either start, a number that a field holds is at most 9,999,999 in magnitude, and so is one
-- that is kept for an undo, for a field; and so from any card on which that holds.
use mathlib.Core.Path.{◌≡◌, refl, sym, ap, subst, ◌∙◌}
use mathlib.Core.Bool.{Bool, true, false}
use mathlib.Core.List.{List, [], ◌∷◌}
use Rattle.std.specs.Prelude.{Option}
use native.Mathlib.Omega.{arith}
use lib.Dec.{leb→le}
use lib.IntN.{ℤ, pos, negsuc, neg_ℤ, ℤ_discrete}
use Rattle.refusal.proofs.Decisions.{holds-decided}
use Rattle.exact.proofs.Machine.{between-low, between-high}
use Rattle.card.specs.Fields.{is_field, field_of, Full, fresh_card, DUT1, fresh_with_dut1_assumed_zero, Before}
use Rattle.card.specs.Calls.{CardValues, ReadValues, refused, not_written, largest_heard, can_be_heard, read_tests, confirm_tests, undo_tests}
use Rattle.card.specs.declared.Field.{Field}
use Rattle.card.specs.declared.Field.TheVariants.{Heard}
use Rattle.card.specs.declared.Latest.{Latest}
use Rattle.card.specs.declared.Card.{Card}
use Rattle.card.proofs.FieldNumbers.{no_field}
use Rattle.card.proofs.Hearings.{heard-field, hear-heard, hear-unheard}
use Rattle.card.specs.History.{Call, hear, read, confirm, undo, after, after_all, is_heard, Small, KeptSmall, HeldSmall}
use Rattle.card.proofs.OneCall.{Effect, heard, read_out, confirmed, undone, kept, effect, after-full}
use Rattle.card.proofs.Starts.{fresh-is-empty, assumed-dut1, others-are-empty}

-- what can be heard is small
small : (z : ℤ) → can_be_heard z ≡ true → Small (Heard z)
small (pos n) e = leb→le n largest_heard (between-high (neg_ℤ (pos largest_heard)) (pos n) (pos largest_heard) e).le
small (negsuc n) e = let h = leb→le n 9_999_998 (between-low (neg_ℤ (pos largest_heard)) (negsuc n) (pos largest_heard) e).le in omega arith

-- a call brings in no other number
module _ (c : Card) (held : HeldSmall c) where
  kept_small : (f : ℤ) (v : Field) → c.latest ≡ Before f v → Small v
  kept_small f v e = (subst KeptSmall e held.1).1

  after_one : (f : ℤ) {x : Call} {v : Field} {l : Option Latest} → Effect c f x v l → Small v
  after_one f (heard n e r t w k) = rw w (small n (heard-field f n t).1)
  after_one f (read_out n buffer place e r b k w p) = rw w (rw k at (held.0 f))
  after_one f (confirmed n e r k w p) = rw w (rw k at (held.0 f))
  after_one f {x} {v} (undone e k l) = kept_small f v k
  after_one f (kept h w p) = rw w (held.0 f)

  field-small : (x : Call) → Full c → (f : ℤ) (b : Bool) → is_field f ≡ b → Small (field_of (after c x) f)
  field-small x full f false i = rw (sym (no_field f i (after c x))) (omega arith)
  field-small x full f true i = after_one f (effect c f x full i)

  kept-heard : (f n : ℤ) (b : Bool) → is_heard f n ≡ b → KeptSmall (after c (hear f n)).latest
  kept-heard f n false h = subst (λ (d : Card). KeptSmall d.latest) (sym (hear-unheard c f n h).0) held.1
  kept-heard f n true h =
      subst (λ (v : CardValues). KeptSmall v.card.latest) (hear-heard c f n h) ((heard-field f n h).0, held.0 f)

  kept-after : (y : Call) → KeptSmall (after c y).latest
  kept-after (hear f n) = kept-heard f n (is_heard f n) refl
  kept-after (read f buffer place) =
      holds-decided (λ (v : ReadValues). KeptSmall v.card.latest) (read_tests c f buffer place) _ (not_written c) held.1
      (held.1, (held.1, (held.1, tt)))
  kept-after (confirm f) =
      holds-decided (λ (v : CardValues). KeptSmall v.card.latest) (confirm_tests c f) _ (refused c) held.1 (held.1, (held.1, tt))
  kept-after undo = holds-decided (λ (v : CardValues). KeptSmall v.card.latest) (undo_tests c) _ (refused c) tt (held.1, tt)

-- ---- from any card on which it holds: one call, and any calls
pub one-call-keeps-small : (c : Card) (x : Call) → Full c → HeldSmall c → HeldSmall (after c x)
one-call-keeps-small c x full held = (λ f. field-small c held x full f (is_field f) refl, kept-after c held x)

pub held-numbers-are-small : (c : Card) (calls : List Call) → Full c → HeldSmall c → HeldSmall (after_all c calls)
unfolding after_all
held-numbers-are-small c [] full held = held
held-numbers-are-small c (x ∷ calls) full held =
    held-numbers-are-small (after c x) calls (after-full c x full) (one-call-keeps-small c x full held)

-- ---- from either start
pub fresh-is-small : HeldSmall fresh_card
fresh-is-small = (λ f. rw (fresh-is-empty f) (omega arith), tt)

pub fresh-held-numbers-are-small : (calls : List Call) → HeldSmall (after_all fresh_card calls)
fresh-held-numbers-are-small calls = held-numbers-are-small fresh_card calls refl fresh-is-small

small-by-field : (f : ℤ) → Dec (f ≡ DUT1) → Small (field_of fresh_with_dut1_assumed_zero f)
small-by-field f (yes d) = rw (ap (field_of fresh_with_dut1_assumed_zero) d ∙ assumed-dut1) (omega arith)
small-by-field f (no d) = rw (others-are-empty f d) (omega arith)

pub assumed-held-numbers-are-small : (calls : List Call) → HeldSmall (after_all fresh_with_dut1_assumed_zero calls)
assumed-held-numbers-are-small calls =
    held-numbers-are-small fresh_with_dut1_assumed_zero calls refl (λ f. small-by-field f (ℤ_discrete f DUT1), tt)
