-- The words follow the card. On the words of a card with small numbers each call answers what it answers on that card, and leaves the words of the card after
-- it. So from a fresh card on, as long as these calls alone write the words, they are after any calls the words of the card after the same calls from a fresh
-- one, and what crates/card proves of that card holds of them. And a call that is refused leaves the words as they were, whatever they were.
use mathlib.Core.Path.{◌≡◌, refl, ap, ◌∙◌}
use mathlib.Core.Bool.{Bool, true, false}
use mathlib.Core.Logic.{◌≢◌}
use mathlib.Core.List.{List, [], ◌∷◌}
use Prim.Native.Nat.{ℕ}
use lib.IntN.{ℤ}
use lib.ListN.{length}
use borrow.Author.Tests.{eq-eqb}
use Rattle.card.specs.Fields.{Full, fresh_card}
use Rattle.card.specs.Calls as Calls
use Rattle.card.specs.Calls.{CardValues}
use Rattle.card_words.specs.Words.{word_count, card_words, is_card, card_of}
use Rattle.card.specs.declared.Card.{Card}
use Rattle.card.specs.History.{Call, hear, read, confirm, undo, after, refusal, after_all, HeldSmall}
use Rattle.card.proofs.OneCall.{after-full}
use Rattle.card.proofs.RefusedLeavesTheCard.{refused-leaves}
use Rattle.card.proofs.HeldNumbersAreSmall.{one-call-keeps-small, fresh-is-small}
use Rattle.card_words.proofs.CardsInWords.{words-are-card, card-back, words_back}
use Rattle.lent_card.specs.LentCard.{with_card, words_values, into_words, call_words, fresh_words, read_into_words, not_read, read_words}
use Rattle.lent_card.specs.LentHistory.{words_after, words_refusal, words_after_all}
use Rattle.lent_card.proofs.ByCard.{on-card, on_none}

-- ---- one call, on words that are a card and on words that are none
module _ (ws : List ℤ) where
  module _ (e : is_card ws ≡ true) where
    called : (call : Card → CardValues) → call_words ws call ≡ into_words (call (card_of ws))
    called call = on-card ws (λ c. into_words (call c)) (λ k. words_values k ws) e

    read_out : (f : ℤ) (buffer : List ℕ) (place : ℕ) → read_words ws f buffer place ≡ read_into_words (Calls.read (card_of ws) f buffer place)
    read_out f buffer place = on-card ws (λ c. read_into_words (Calls.read c f buffer place)) (not_read ws) e

    card-refusal : (x : Call) → words_refusal ws x ≡ refusal (card_of ws) x
    card-refusal (hear f n) = ap (λ v. v.refusal) (called (λ c. Calls.hear c f n))
    card-refusal (read f buffer place) = ap (λ v. v.refusal) (read_out f buffer place)
    card-refusal (confirm f) = ap (λ v. v.refusal) (called (λ c. Calls.confirm c f))
    card-refusal undo = ap (λ v. v.refusal) (called Calls.undo)

    card-after : (x : Call) → words_after ws x ≡ card_words (after (card_of ws) x)
    card-after (hear f n) = ap (λ v. v.words) (called (λ c. Calls.hear c f n))
    card-after (read f buffer place) = ap (λ v. v.words) (read_out f buffer place)
    card-after (confirm f) = ap (λ v. v.words) (called (λ c. Calls.confirm c f))
    card-after undo = ap (λ v. v.words) (called Calls.undo)

  module _ (e : is_card ws ≡ false) where
    not-called : (call : Card → CardValues) → (call_words ws call).words ≡ ws
    not-called call = ap (λ v. v.words) (on_none ws (λ c. into_words (call c)) (λ k. words_values k ws) e)

    none_after : (x : Call) → words_after ws x ≡ ws
    none_after (hear f n) = not-called (λ c. Calls.hear c f n)
    none_after (read f buffer place) = ap (λ v. v.words) (on_none ws (λ c. read_into_words (Calls.read c f buffer place)) (not_read ws) e)
    none_after (confirm f) = not-called (λ c. Calls.confirm c f)
    none_after undo = not-called Calls.undo

-- ---- on the words of a card
module _ (c : Card) (full : Full c) (small : HeldSmall c) where
  -- whatever is answered with the card
  pub through-words : {A : Type 0} (answer : Card → A) (refused : ℕ → A) → with_card (card_words c) answer refused ≡ answer c
  through-words answer refused = on-card (card_words c) answer refused (words-are-card c full small) ∙ ap answer (card-back c full small)

  pub words-refuse : (x : Call) → words_refusal (card_words c) x ≡ refusal c x
  words-refuse x = card-refusal (card_words c) (words-are-card c full small) x ∙ ap (λ d. refusal d x) (card-back c full small)

  pub words-follow : (x : Call) → words_after (card_words c) x ≡ card_words (after c x)
  words-follow x = card-after (card_words c) (words-are-card c full small) x ∙ ap (λ d. card_words (after d x)) (card-back c full small)

-- ---- any calls
follows-all : (c : Card) (calls : List Call) → Full c → HeldSmall c → words_after_all (card_words c) calls ≡ card_words (after_all c calls)
unfolding words_after_all after_all
follows-all c [] full small = refl
follows-all c (x ∷ calls) full small =
    ap (λ ws. words_after_all ws calls) (words-follow c full small x)
    ∙ follows-all (after c x) calls (after-full c x full) (one-call-keeps-small c x full small)

pub words-follow-the-card : (ws : List ℤ) (calls : List Call) → length ws ≡ word_count
    → ((fresh_words ws).refusal ≡ 0) × (words_after_all (fresh_words ws).words calls ≡ card_words (after_all fresh_card calls))
words-follow-the-card ws calls l =
    let e = eq-eqb (length ws) word_count l in
    (rw e, ap (λ ws. words_after_all ws calls) (rw e) ∙ follows-all fresh_card calls refl fresh-is-small)

-- ---- a refused call leaves the words
refused-by : (ws : List ℤ) (x : Call) (b : Bool) → is_card ws ≡ b → words_refusal ws x ≢ 0 → words_after ws x ≡ ws
refused-by ws x false e n = none_after ws e x
refused-by ws x true e n =
    card-after ws e x ∙ ap card_words (refused-leaves (card_of ws) x (λ z. n (card-refusal ws e x ∙ z))) ∙ words_back ws e

pub refused-leaves-words : (ws : List ℤ) (x : Call) → words_refusal ws x ≢ 0 → words_after ws x ≡ ws
refused-leaves-words ws x = refused-by ws x (is_card ws) refl
