-- Histories of calls on lent words (document 02, request 6): the same calls as on a card (crates/card, specs/History.antt).
use Rattle.std.specs.Prelude.{List, [], ◌∷◌, ℕ, ℤ}
use Rattle.card.specs.History.{Call, hear, read, confirm, undo}
use Rattle.lent_card.specs.LentCard.{hear_words, read_words, confirm_words, undo_words}

-- the words after a call, refused or not
abbrev pub words_after : List ℤ → Call → List ℤ
words_after ws (hear f n) = (hear_words ws f n).words
words_after ws (read f buffer place) = (read_words ws f buffer place).words
words_after ws (confirm f) = (confirm_words ws f).words
words_after ws undo = (undo_words ws).words

-- its refusal number, 0 where it is accepted
abbrev pub words_refusal : List ℤ → Call → ℕ
words_refusal ws (hear f n) = (hear_words ws f n).refusal
words_refusal ws (read f buffer place) = (read_words ws f buffer place).refusal
words_refusal ws (confirm f) = (confirm_words ws f).refusal
words_refusal ws undo = (undo_words ws).refusal

-- the words after calls, one after the other
unfoldable pub words_after_all : List ℤ → List Call → List ℤ
words_after_all ws [] = ws
words_after_all ws (call ∷ calls) = words_after_all (words_after ws call) calls
