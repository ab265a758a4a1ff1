-- The calls on a card in lent words (RULES.md, "A card in words"). Words that are no card are refused by a number that no rule
-- has, before any other test; else a call on the card that they are gives the answer, and its card's words come in their place.
use Rattle.std.specs.Prelude.{◌≡◌, Result, MatchOption, List, [], ◌∷◌, ℕ, eqb, ℤ, length}
use Rattle.refusal.specs.Tests.{test, decided}
use Rattle.card.specs.Fields.{fresh_card}
use Rattle.refusal.specs.declared.Refusal.{Refusal}
use Rattle.card.specs.Calls.{CardValues, card_values, ReadValues, hear, confirm, undo, read, buffer_after}
use Rattle.card_words.specs.Words.{word_count, card_words, is_card, card_of, restored_from}
use Rattle.card.specs.declared.Card.{Card}
use Rattle.lent_card.specs.declared.ReadAnswer.{ReadAnswer}

-- the number
abbrev pub no_card : ℕ
no_card = 100

-- what is answered with the card that words are, or with the refusal where they are none
abbrev pub with_card : {A : Type 0} → List ℤ → (Card → A) → (ℕ → A) → A
with_card ws answer refused = decided (test (is_card ws) no_card ∷ []) (answer (card_of ws)) refused

-- ---- the answers: the refusal, 0 where there is none, and the words afterwards
pub record WordsValues : Type 0 where
  pub refusal : ℕ
  pub words : List ℤ

abbrev pub words_values : ℕ → List ℤ → WordsValues
words_values refusal ws = record { refusal = refusal; words = ws }

-- of a call, whose card comes into the words
abbrev pub into_words : CardValues → WordsValues
into_words v = words_values v.refusal (card_words v.card)

abbrev pub call_words : List ℤ → (Card → CardValues) → WordsValues
call_words ws call = with_card ws (λ c. into_words (call c)) (λ k. words_values k ws)

-- the same of a call of which `Returns c r d` says that on card c it may answer r and leave card d
pub record CalledOn (Returns : Card → Result Unit Refusal → Card → Type 0) (ws : List ℤ) (v : WordsValues) : Type 0 where
  pub called : MatchOption (restored_from ws) (v ≡ words_values no_card ws)
      (λ c. (r : Result Unit Refusal) × (d : Card) × Returns c r d × (v ≡ into_words (card_values r d)))

-- ---- the calls
-- a fresh card asks only for room
abbrev pub fresh_words : List ℤ → WordsValues
fresh_words ws = decided (test (eqb (length ws) word_count) no_card ∷ []) (words_values 0 (card_words fresh_card)) (λ k. words_values k ws)

abbrev pub hear_words : List ℤ → ℤ → ℤ → WordsValues
hear_words ws f z = call_words ws (λ c. hear c f z)

abbrev pub confirm_words : List ℤ → ℤ → WordsValues
confirm_words ws f = call_words ws (λ c. confirm c f)

abbrev pub undo_words : List ℤ → WordsValues
undo_words ws = call_words ws undo

-- a reading has also a length, 0 where it is refused, and a buffer
pub record ReadWordsValues : Type 0 where
  pub refusal : ℕ
  pub length : ℕ
  pub words : List ℤ

abbrev pub read_words_values : ReadAnswer → List ℤ → ReadWordsValues
read_words_values a ws = record { refusal = a.refusal; length = a.length; words = ws }

abbrev pub read_into_words : ReadValues → ReadWordsValues
read_into_words v = record { refusal = v.refusal; length = v.length; words = card_words v.card }

abbrev pub not_read : List ℤ → ℕ → ReadWordsValues
not_read ws k = record { refusal = k; length = 0; words = ws }

abbrev pub read_words : List ℤ → ℤ → List ℕ → ℕ → ReadWordsValues
read_words ws f buffer place = with_card ws (λ c. read_into_words (read c f buffer place)) (not_read ws)

abbrev pub buffer_words : List ℤ → ℤ → List ℕ → ℕ → List ℕ
buffer_words ws f buffer place = with_card ws (λ c. buffer_after c f buffer place) (λ k. buffer)
