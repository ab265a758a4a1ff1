-- What a call on lent words answers, by whether they are a card.
use mathlib.Core.Path.{◌≡◌, sym, ap, ◌∙◌}
use mathlib.Core.Bool.{Bool, true, false, cond}
use mathlib.Core.List.{List}
use Rattle.std.specs.Prelude.{Some, None, Result, MatchOption}
use Rattle.std.proofs.lemmas.Option.{same_Some}
use Rattle.exact.proofs.Choice.{was-true}
use Prim.Native.Nat.{ℕ}
use lib.IntN.{ℤ}
use Rattle.card_words.specs.Words.{is_card, card_of, restored_from}
use Rattle.refusal.specs.declared.Refusal.{Refusal}
use Rattle.card.specs.Calls.{CardValues, card_values}
use Rattle.card.specs.declared.Card.{Card}
use Rattle.card.proofs.Clash.{clash}
use Rattle.lent_card.specs.LentCard as LentCard
use Rattle.lent_card.specs.LentCard.{with_card, WordsValues, words_values, into_words, call_words, CalledOn}

-- ---- by whether the words are a card
module _ {A : Type 0} (ws : List ℤ) (answer : Card → A) (refused : ℕ → A) where
  pub on-card : is_card ws ≡ true → with_card ws answer refused ≡ answer (card_of ws)
  on-card e = rw e

  pub on_none : is_card ws ≡ false → with_card ws answer refused ≡ refused LentCard.no_card
  on_none e = rw e

  -- where a card was restored from them
  pub with : (c : Card) → Some c ≡ restored_from ws → answer c ≡ with_card ws answer refused
  with c e =
      let t = was-true (is_card ws) (Some (card_of ws)) None (Some c) (λ p. clash (cc)) e in
      ap answer (same_Some _ _ t.1) ∙ sym (on-card t.0)

-- ---- a call of which it is said what it returns on a card
module _ (ws : List ℤ) {Returns : Card → Result Unit Refusal → Card → Type 0} (call : Card → CardValues) (v : WordsValues) where
  called-by : (b : Bool)
      → MatchOption (cond b (Some (card_of ws)) None) (v ≡ words_values LentCard.no_card ws) (λ c. (r : Result Unit Refusal) × (d : Card) × Returns c r d × (v ≡ into_words (card_values r d)))
      → ((c : Card) (r : Result Unit Refusal) (d : Card) → Returns c r d → card_values r d ≡ call c)
      → v ≡ cond b (into_words (call (card_of ws))) (words_values LentCard.no_card ws)
  called-by true h is = h.3 ∙ ap into_words (is _ _ _ h.2)
  called-by false h is = h

  pub called : CalledOn Returns ws v → ((c : Card) (r : Result Unit Refusal) (d : Card) → Returns c r d → card_values r d ≡ call c) → v ≡ call_words ws call
  called h = called-by (is_card ws) h.called
