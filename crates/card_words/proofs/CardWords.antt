-- The words of a card: how many they are, and how they come into lent ones.
use mathlib.Core.Path.{◌≡◌, refl, sym, ap, ◌∙◌}
use mathlib.Core.List.{List, [], ◌∷◌, ◌++◌, append-nil}
use Prim.Native.Nat.{ℕ, zero, suc, ◌+◌, ◌*◌}
use native.Mathlib.Numerals.{add-one}
use native.Mathlib.Omega.{arith}
use lib.IntN.{ℤ}
use lib.ListN.{length, set, length-append, drop_of_length-le}
use lib.Seq.{sets, sets-eq}
use Rattle.card.specs.Fields.{field_count, field_at}
use Rattle.card.specs.Confirmed.{fields_from, fields_of}
use Rattle.card_words.specs.Words.{word_count, field_words, words_of, latest_words, card_words, latest_place}
use Rattle.card.specs.declared.Field.{Field}
use Rattle.card.specs.declared.Card.{Card}

-- ---- how many words they are
pub length_fields : (c : Card) (i k : ℕ) → length (fields_from c i k) ≡ k
unfolding fields_from
length_fields c i zero = refl
length_fields c i (suc k) = ap suc (length_fields c (suc i) k)

pub length-words : (fs : List Field) → length (words_of fs) ≡ 2 * length fs
unfolding words_of
length-words [] = refl
length-words (f ∷ fs) = let h = length-words fs in omega arith

-- ---- fields, words and stores in two parts
one-field-more : (c : Card) (i k : ℕ) → fields_from c i (suc k) ≡ fields_from c i k ++ field_at c (i + k) ∷ []
unfolding fields_from
one-field-more c i zero = let e : i ≡ i + 0 = omega arith in ap (λ (j : ℕ). field_at c j ∷ []) e
one-field-more c i (suc k) =
    let e : suc i + k ≡ i + suc k = omega arith in
    ap (λ l. field_at c i ∷ l) (one-field-more c (suc i) k ∙ ap (λ (j : ℕ). fields_from c (suc i) k ++ field_at c j ∷ []) e)

words_append : (fs gs : List Field) → words_of (fs ++ gs) ≡ words_of fs ++ words_of gs
unfolding words_of
words_append [] gs = refl
words_append (f ∷ fs) gs = ap (λ l. field_words f ++ l) (words_append fs gs)

sets-append : (l xs ys : List ℤ) (i : ℕ) → sets l i (xs ++ ys) ≡ sets (sets l i xs) (i + length xs) ys
sets-append l [] ys i = let e : i ≡ i + 0 = omega arith in ap (λ (k : ℕ). sets l k ys) e
sets-append l (x ∷ xs) ys i =
    let e : suc i + length xs ≡ i + suc (length xs) = omega arith in
    sets-append (set l i x) xs ys (suc i) ∙ ap (λ (k : ℕ). sets (sets l i (x ∷ xs)) k ys) e

-- ---- lent words after the first i fields of a card came into them
abbrev pub written : Card → List ℤ → ℕ → List ℤ
written c before i = sets before 0 (words_of (fields_from c 0 i))

module _ (c : Card) (before : List ℤ) where
  length-first : (i : ℕ) → 0 + length (words_of (fields_from c 0 i)) ≡ 2 * i
  length-first i = let k = length-words (fields_from c 0 i) in let m = length_fields c 0 i in omega arith

  -- one field more
  pub next-written : (i : ℕ) → sets (written c before i) (2 * i) (field_words (field_at c i)) ≡ written c before (i + 1)
  unfolding words_of
  next-written i =
      let e : 0 + i ≡ i = omega arith in
      rw add-one
      (sym
      (ap (λ l. sets before 0 (words_of l)) (one-field-more c 0 i ∙ ap (λ (j : ℕ). fields_from c 0 i ++ field_at c j ∷ []) e)
      ∙ ap (sets before 0) (words_append (fields_from c 0 i) (field_at c i ∷ []))
      ∙ sets-append before (words_of (fields_from c 0 i)) (field_words (field_at c i)) 0
      ∙ ap (λ (k : ℕ). sets (written c before i) k (field_words (field_at c i))) (length-first i)))

  -- all of them, and what an undo puts back
  pub all-written : length before ≡ word_count → sets (written c before field_count) latest_place (latest_words c.latest) ≡ card_words c
  all-written l =
      let e : 0 + length (card_words c) ≡ word_count =
      (let k = length-append (words_of (fields_of c)) (latest_words c.latest) in let m = length-first field_count in omega arith) in
      let none = drop_of_length-le before {i = 0 + length (card_words c)} (omega arith) in
      ap (λ (k : ℕ). sets (written c before field_count) k (latest_words c.latest)) (sym (length-first field_count))
      ∙ sym (sets-append before (words_of (fields_of c)) (latest_words c.latest) 0)
      ∙ sets-eq (card_words c) before 0 (omega arith)
      ∙ ap (λ l. card_words c ++ l) none
      ∙ append-nil (card_words c)
