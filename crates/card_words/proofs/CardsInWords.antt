-- Cards and their words correspond. The words of a card are a card where its numbers are small, and then they are that card's; and words that are a card are
-- the words of that card.
use mathlib.Core.Path.{◌≡◌, refl, sym, ap, subst, ◌∙◌}
use mathlib.Core.Bool.{Bool, true, false, ◌&&◌}
use mathlib.Core.List.{List, [], ◌∷◌, ◌++◌, append_assoc}
use Rattle.std.specs.Prelude.{Option, Some, None}
use Prim.Native.Nat.{ℕ, zero, suc, ◌+◌, ◌*◌, ◌≤◌}
use native.Mathlib.Omega.{arith}
use lib.Dec.{eqb}
use lib.IntN.{ℤ, pos, negsuc, nat_abs}
use lib.ListN.{length, take, drop, length-append, drop_of_length-le, take-append-drop}
use lib.Seq.{get_or_at, get_or-append-add, drop-cons, take_all}
use borrow.Author.Tests.{le-leb, eqb-true, eq-eqb}
use Rattle.exact.specs.Range.{between, same}
use Rattle.exact.specs.Nth.{nth}
use Rattle.exact.proofs.Choice.{same_true}
use Rattle.exact.proofs.Machine.{between-nat, and-true}
use Rattle.card.specs.Fields.{number_in, field_count, is_field, slot_index, field_at, field_of, Full, Before}
use Rattle.card.specs.Calls.{largest_heard, can_be_heard}
use Rattle.card.specs.Confirmed.{fields_from, fields_of}
use Rattle.card_words.specs.Words.{word_count, state_number, field_words, words_of, latest_field, latest_before, latest_words, card_words, is_field_words, field_from, is_latest_words, latest_from, are_fields, fields_in, latest_place, is_card, card_of}
use Rattle.card.specs.declared.Field.{Field}
use Rattle.card.specs.declared.Field.TheVariants.{Empty, Heard, Read, Confirmed}
use Rattle.card.specs.declared.Latest.{Latest}
use Rattle.card.specs.declared.Card.{Card}
use Rattle.card.proofs.FieldNumbers.{field_found}
use Rattle.card_words.proofs.CardWords.{length_fields, length-words}
use Rattle.card.proofs.Clash.{clash}
use Rattle.card.specs.History.{Small, KeptSmall, HeldSmall}

-- ---- a field
can-be-heard : (z : ℤ) → nat_abs z ≤ largest_heard → can_be_heard z ≡ true
unfolding between
can-be-heard (pos n) h = rw (le-leb n largest_heard h)
can-be-heard (negsuc n) h = rw (le-leb n 9_999_998 (omega arith))

is-field-words : (v : Field) → Small v → is_field_words (state_number v) (number_in v) ≡ true
unfolding between
is-field-words Empty h = refl
is-field-words (Heard z) h = can-be-heard z h
is-field-words (Read z) h = can-be-heard z h
is-field-words (Confirmed z) h = can-be-heard z h

field_back : (v : Field) → field_from (state_number v) (number_in v) ≡ v
field_back Empty = refl
field_back (Heard z) = refl
field_back (Read z) = refl
field_back (Confirmed z) = refl

-- ---- what an undo puts back
-- 0 is no field's number
not-zero : (f : ℤ) (b : Bool) → is_field f ≡ true → same f (pos 0) ≡ b → b ≡ false
unfolding between
not-zero f true i e = let z = ap is_field (same_true f (pos 0) e) in clash (cc)
not-zero f false i e = refl

is-latest-words : (l : Option Latest) → KeptSmall l → is_latest_words (latest_field l) (state_number (latest_before l)) (number_in (latest_before l)) ≡ true
is-latest-words None h = refl
is-latest-words (Some l) h = let n = not-zero l.field (same l.field (pos 0)) h.0 refl in rw (n, h.0) (is-field-words l.before h.1)

latest-back : (l : Option Latest) → KeptSmall l → latest_from (latest_field l) (state_number (latest_before l)) (number_in (latest_before l)) ≡ l
latest-back None h = refl
latest-back (Some l) h = let n = not-zero l.field (same l.field (pos 0)) h.0 refl in rw n (ap (Before l.field) (field_back l.before))

-- ---- fields, behind words of which there are two for each of the first i fields
abbrev AllSmall : List Field → Type 0
AllSmall [] = Unit {0}
AllSmall (v ∷ vs) = Small v × AllSmall vs

module _ (front : List ℤ) (v : Field) (rest : List ℤ) (i : ℕ) (l : length front ≡ 2 * i) where
  first_word : nth (front ++ (field_words v ++ rest)) (2 * i) ≡ state_number v
  first_word = get_or_at front (state_number v) (number_in v ∷ rest) (pos 0) (2 * i) l

  second_word : nth (front ++ (field_words v ++ rest)) (2 * i + 1) ≡ number_in v
  second_word =
      ap (λ ws. nth ws (2 * i + 1)) (sym (append_assoc front (state_number v ∷ []) (number_in v ∷ rest)))
      ∙ get_or_at (front ++ state_number v ∷ []) (number_in v) rest (pos 0) (2 * i + 1) (simp length-append (omega arith))

module _ (rest : List ℤ) where
  are-fields : (front : List ℤ) (vs : List Field) (i : ℕ) → length front ≡ 2 * i → AllSmall vs
      → are_fields (front ++ (words_of vs ++ rest)) i (length vs) ≡ true
  unfolding are_fields words_of
  are-fields front [] i l h = refl
  are-fields front (v ∷ vs) i l h =
      let more = words_of vs ++ rest in
      rw (first_word front v more i l, second_word front v more i l, is-field-words v h.0)
      (ap (λ ws. are_fields ws (suc i) (length vs)) (sym (append_assoc front (field_words v) more))
      ∙ are-fields (front ++ field_words v) vs (suc i) (simp length-append (omega arith)) h.1)

  fields-back : (front : List ℤ) (vs : List Field) (i : ℕ) → length front ≡ 2 * i → fields_in (front ++ (words_of vs ++ rest)) i (length vs) ≡ vs
  unfolding fields_in words_of
  fields-back front [] i l = refl
  fields-back front (v ∷ vs) i l =
      let more = words_of vs ++ rest in
      rw (first_word front v more i l, second_word front v more i l, field_back v)
      (ap (λ vs. v ∷ vs)
      (ap (λ ws. fields_in ws (suc i) (length vs)) (sym (append_assoc front (field_words v) more))
      ∙ fields-back (front ++ field_words v) vs (suc i) (simp length-append (omega arith))))

-- ---- the fields of a card, in a list
fields-small : (c : Card) (i k : ℕ) → ((f : ℤ) → Small (field_of c f)) → i + k ≤ field_count → AllSmall (fields_from c i k)
unfolding fields_from between
fields-small c i zero small h = tt
fields-small c i (suc k) small h =
    let f = pos (suc i) in
    let is : is_field f ≡ true = rw (le-leb 1 (suc i) (omega arith), le-leb (suc i) field_count (omega arith)) in
    let at : slot_index f ≡ i = omega arith in
    (subst Small (sym (field_found f is c) ∙ ap (field_at c) at) (small f), fields-small c (suc i) k small (omega arith))

fields-listed : (c : Card) (i k : ℕ) → i + k ≤ length c.fields → fields_from c i k ≡ take k (drop i c.fields)
unfolding fields_from
fields-listed c i zero h = refl
fields-listed c i (suc k) h =
    rw (drop-cons c.fields i Empty (omega arith)) (ap (λ vs. field_at c i ∷ vs) (fields-listed c (suc i) k (omega arith)))

-- ---- from a card to its words and back
module _ (c : Card) where
  length-first : length (words_of (fields_of c)) ≡ latest_place
  length-first = length-words (fields_of c) ∙ ap (λ (k : ℕ). 2 * k) (length_fields c 0 field_count)

  length-all : length (card_words c) ≡ word_count
  length-all = let h = length-first in length-append (words_of (fields_of c)) (latest_words c.latest) ∙ omega arith

  latest-word : (n : ℕ) → nth (card_words c) (latest_place + n) ≡ nth (latest_words c.latest) n
  latest-word n =
      ap (λ (k : ℕ). nth (card_words c) (k + n)) (sym length-first)
      ∙ get_or-append-add (words_of (fields_of c)) (latest_words c.latest) n (pos 0)

  module _ (full : Full c) (small : HeldSmall c) where
    pub words-are-card : is_card (card_words c) ≡ true
    words-are-card =
        let f = are-fields (latest_words c.latest) [] (fields_of c) 0 refl (fields-small c 0 field_count small.0 (omega arith)) in
        let g : are_fields (card_words c) 0 field_count ≡ true = ap (are_fields (card_words c) 0) (sym (length_fields c 0 field_count)) ∙ f in
        rw (eq-eqb (length (card_words c)) word_count length-all, latest-word 0, latest-word 1, latest-word 2, is-latest-words c.latest small.1, g)

    pub card-back : card_of (card_words c) ≡ c
    card-back =
        let s = fields-back (latest_words c.latest) [] (fields_of c) 0 refl in
        let fields : fields_in (card_words c) 0 field_count ≡ c.fields =
        ap (fields_in (card_words c) 0) (sym (length_fields c 0 field_count))
        ∙ s ∙ fields-listed c 0 field_count (omega arith) ∙ take_all field_count c.fields (omega arith) in
        let latest : (card_of (card_words c)).latest ≡ c.latest =
        (rw (latest-word 0, latest-word 1, latest-word 2) (latest-back c.latest small.1)) in
        λ j. record { fields = fields j; latest = latest j }

-- ---- from words that are a card to that card and back
by_number : (n : ℕ) (z : ℤ) → 1 ≤ n → n ≤ 3 → field_words (field_from (pos n) z) ≡ pos n ∷ z ∷ []
by_number zero z h k = absurd (omega arith)
by_number (suc zero) z h k = refl
by_number (suc (suc zero)) z h k = refl
by_number (suc (suc (suc zero))) z h k = refl
by_number (suc (suc (suc (suc n)))) z h k = absurd (omega arith)

field-words-by : (s z : ℤ) (b : Bool) → same s (pos 0) ≡ b → is_field_words s z ≡ true → field_words (field_from s z) ≡ s ∷ z ∷ []
field-words-by s z true e h =
    let t : same z (pos 0) ≡ true = rw e at h in
    let s-is = same_true s (pos 0) e in
    let z-is = same_true z (pos 0) t in
    (λ j. field_words (field_from (s-is j) (z-is j))) ∙ sym (λ j. s-is j ∷ z-is j ∷ [])
field-words-by s z false e h =
    let t : (between (pos 1) s (pos 3) && can_be_heard z) ≡ true = rw e at h in
    let r = between-nat 1 3 s (and-true (between (pos 1) s (pos 3)) (can_be_heard z) t).0 in
    ap (λ s. field_words (field_from s z)) r.0 ∙ by_number (nat_abs s) z r.1 r.2 ∙ ap (λ s. s ∷ z ∷ []) (sym r.0)

field-words : (s z : ℤ) → is_field_words s z ≡ true → field_words (field_from s z) ≡ s ∷ z ∷ []
field-words s z = field-words-by s z (same s (pos 0)) refl

latest-words : (f s z : ℤ) (b : Bool) → same f (pos 0) ≡ b → is_latest_words f s z ≡ true → latest_words (latest_from f s z) ≡ f ∷ s ∷ z ∷ []
latest-words f s z true e h =
    let t = and-true (same s (pos 0)) (same z (pos 0)) (rw e at h) in
    rw e (λ j. sym (same_true f (pos 0) e) j ∷ sym (same_true s (pos 0) t.0) j ∷ sym (same_true z (pos 0) t.1) j ∷ [])
latest-words f s z false e h =
    let t = and-true (is_field f) (is_field_words s z) (rw e at h) in rw e (ap (λ l. f ∷ l) (field-words s z t.1))

module _ (ws : List ℤ) where
  fields-words : (i k : ℕ) → 2 * (i + k) ≤ length ws → are_fields ws i k ≡ true
      → words_of (fields_in ws i k) ≡ take (2 * k) (drop (2 * i) ws)
  unfolding are_fields fields_in words_of
  fields-words i zero h a = refl
  fields-words i (suc k) h a =
      let t = and-true (is_field_words (nth ws (2 * i)) (nth ws (2 * i + 1))) (are_fields ws (suc i) k) a in
      let s = nth ws (2 * i) in
      let z = nth ws (2 * i + 1) in
      let m : suc (2 * i) ≡ 2 * i + 1 = omega arith in
      let n : suc (2 * i + 1) ≡ 2 * suc i = omega arith in
      let q : 2 * suc k ≡ suc (suc (2 * k)) = omega arith in
      let two : drop (2 * i) ws ≡ s ∷ z ∷ drop (2 * suc i) ws =
      drop-cons ws (2 * i) (pos 0) (omega arith)
      ∙ ap (λ (j : ℕ). s ∷ drop j ws) m
      ∙ ap (λ l. s ∷ l) (drop-cons ws (2 * i + 1) (pos 0) (omega arith))
      ∙ ap (λ (j : ℕ). s ∷ z ∷ drop j ws) n in
      ap (λ l. l ++ words_of (fields_in ws (suc i) k)) (field-words s z t.0)
      ∙ ap (λ l. s ∷ z ∷ l) (fields-words (suc i) k (omega arith) t.1)
      ∙ sym (ap (λ (j : ℕ). take j (drop (2 * i) ws)) q ∙ ap (take (suc (suc (2 * k)))) two)

  last-words : length ws ≡ word_count → drop latest_place ws ≡ nth ws 22 ∷ nth ws 23 ∷ nth ws 24 ∷ []
  last-words l =
      drop-cons ws 22 (pos 0) (omega arith)
      ∙ ap (λ r. nth ws 22 ∷ r) (drop-cons ws 23 (pos 0) (omega arith))
      ∙ ap (λ r. nth ws 22 ∷ nth ws 23 ∷ r) (drop-cons ws 24 (pos 0) (omega arith))
      ∙ ap (λ r. nth ws 22 ∷ nth ws 23 ∷ nth ws 24 ∷ r) (drop_of_length-le ws {i = 25} (omega arith))

  pub words_back : is_card ws ≡ true → card_words (card_of ws) ≡ ws
  unfolding fields_from fields_in
  words_back e =
      let t = and-true (eqb (length ws) word_count) _ e in
      let l = eqb-true (length ws) word_count t.0 in
      let u = and-true (is_latest_words (nth ws 22) (nth ws 23) (nth ws 24)) (are_fields ws 0 field_count) t.1 in
      ap (λ r. r ++ latest_words (card_of ws).latest) (fields-words 0 field_count (omega arith) u.1)
      ∙ ap (λ r. take latest_place ws ++ r)
      (latest-words (nth ws 22) (nth ws 23) (nth ws 24) (same (nth ws 22) (pos 0)) refl u.0 ∙ sym (last-words l))
      ∙ take-append-drop latest_place ws
