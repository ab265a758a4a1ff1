-- Whether a hearing is accepted hangs on no card: where it is heard it is, and else it is refused and leaves the card. And what is kept of a hearing.
use mathlib.Core.Path.{◌≡◌, refl, sym, ap, ◌∙◌}
use mathlib.Core.Bool.{Bool, true, false}
use mathlib.Core.Logic.{◌≢◌}
use native.Mathlib.Omega.{arith}
use lib.IntN.{ℤ}
use Rattle.std.proofs.lemmas.Option.{same_Some}
use Rattle.exact.proofs.Machine.{and-true}
use Rattle.card.specs.Fields.{is_field, Before}
use Rattle.card.specs.Calls as Calls
use Rattle.card.specs.Calls.{accepted, can_be_heard, hear_card}
use Rattle.card.specs.History.{hear, after, refusal, is_heard}
use Rattle.card.specs.declared.Field.{Field}
use Rattle.card.specs.declared.Card.{Card}
use Rattle.card.proofs.CallAnswers.{hear-no-field, hear-too-large, hear-accepted}
use Rattle.card.proofs.Clash.{clash}

-- a number that is heard is for a field, and can be heard
pub heard-field : (f n : ℤ) → is_heard f n ≡ true → (is_field f ≡ true) × (can_be_heard n ≡ true)
heard-field f n = and-true (is_field f) (can_be_heard n)

module _ (c : Card) (f n : ℤ) where
  pub hear-heard : is_heard f n ≡ true → accepted (hear_card c f n) ≡ Calls.hear c f n
  hear-heard h = let t = heard-field f n h in hear-accepted c f n t.0 t.1

  unheard-by : (a b : Bool) → is_field f ≡ a → can_be_heard n ≡ b → is_heard f n ≡ false → (after c (hear f n) ≡ c) × (refusal c (hear f n) ≢ 0)
  unheard-by false b e t h =
      let r = hear-no-field c f n e in
      (sym (ap (λ a. a.card) r), λ z. let k = ap (λ a. a.refusal) r ∙ z in omega arith)
  unheard-by true false e t h =
      let r = hear-too-large c f n e t in
      (sym (ap (λ a. a.card) r), λ z. let k = ap (λ a. a.refusal) r ∙ z in omega arith)
  unheard-by true true e t h = clash (cc)

  pub hear-unheard : is_heard f n ≡ false → (after c (hear f n) ≡ c) × (refusal c (hear f n) ≢ 0)
  hear-unheard = unheard-by (is_field f) (can_be_heard n) refl refl

  accepted-by : (b : Bool) → is_heard f n ≡ b → refusal c (hear f n) ≡ 0 → is_heard f n ≡ true
  accepted-by true h r = h
  accepted-by false h r = absurd ((hear-unheard h).1 r)

  pub accepted-heard : refusal c (hear f n) ≡ 0 → is_heard f n ≡ true
  accepted-heard = accepted-by (is_heard f n) refl

-- what is kept of a hearing says the field and what it was
pub same-kept : {f g : ℤ} {v w : Field} → Before f v ≡ Before g w → (f ≡ g) × (v ≡ w)
same-kept e = let k = same_Some _ _ e in (ap (λ l. l.field) k, ap (λ l. l.before) k)
