-- Reading a field into an array that has room for every number of 64 bits: it refuses nothing, so that what is answered goes by the field alone.
use mathlib.Core.Path.{◌≡◌, refl, sym, ap, ◌∙◌}
use mathlib.Core.Bool.{Bool, true, cond}
use mathlib.Core.List.{List, [], ◌∷◌, ◌++◌}
use Prim.Native.Nat.{ℕ, suc, ◌+◌, ◌^◌, ◌<◌, ◌≤◌}
use native.Mathlib.Omega.{arith}
use lib.IntN.{ℤ, pos, negsuc, nat_abs}
use lib.ListN.{length, take}
use lib.Seq.{take_at}
use borrow.Author.Tests.{le-leb}
use Rattle.refusal.specs.RefusalNumbers.{number_of}
use Rattle.refusal.specs.Tests.{test, decided}
use Rattle.refusal.specs.declared.Refusal.{Refusal}
use Rattle.refusal.proofs.Decisions.{Refusable, decided-append, handed-on, passed_on}
use Rattle.digits.specs.Text.{text}
use Rattle.digits.specs.Writing.{fits, over}
use Rattle.digits.proofs.Decimal.{length-digits-64}
use Rattle.card.specs.Fields.{number_in, field_of}
use Rattle.card.specs.Calls.{ReadValues, written_out, not_written, read_card, held_tests, read, buffer_after}
use Rattle.card.specs.declared.Card.{Card}
use Rattle.replies.specs.Sizes.{longest}
use Rattle.replies.specs.Answers.{refusal_text, read_text, card_read}

-- every number of 64 bits has room
text-fits : (z : ℤ) → nat_abs z < 2 ^ 64 → length (text z) ≤ longest
text-fits (pos n) h = let l = length-digits-64 n h in omega arith
text-fits (negsuc n) h = let l = length-digits-64 (suc n) h in omega arith

-- what a reading of a card answers
abbrev readings : Card → Refusable ReadValues
readings c = record { number = λ v. v.refusal; refused = not_written c; gives = λ k. refl }

module _ (c : Card) (f : ℤ) (l : List ℕ) (e : length l ≡ longest) (small : nat_abs (number_in (field_of c f)) < 2 ^ 64) where
  abbrev z : ℤ
  z = number_in (field_of c f)

  abbrev wrote : ReadValues
  wrote = written_out (length (text z)) (read_card c f)

  has_room : fits l 0 z ≡ true
  has_room = let t = text-fits z small in le-leb (0 + length (text z)) (length l) (omega arith)

  -- the third test passes, so that the first two decide
  by_two : {A : Type 0} (a : A) (refused : ℕ → A) → decided (held_tests c f ++ test (fits l 0 z) 11 ∷ []) a refused ≡ decided (held_tests c f) a refused
  by_two a refused =
      decided-append (held_tests c f) (test (fits l 0 z) 11 ∷ []) a refused
      ∙ ap (λ (b : Bool). decided (held_tests c f) (cond b a (refused 11)) refused) has_room

  -- what a decision by the first two gives, where the reading wrote and where it was refused
  wrote_so : {B : Type 0} (b : B) (refused : ℕ → B) (k : ℕ) (d : Card) → written_out k d ≡ read c f l 0 → b ≡ decided (held_tests c f) b refused
  wrote_so b refused k d w =
      passed_on (readings c) wrote refl b refused (held_tests c f) (omega arith, (omega arith, tt)) (ap (λ (a : ReadValues). a.refusal) (w ∙ by_two wrote (not_written c)))

  refused-so : {B : Type 0} (b : B) (refused : ℕ → B) (r : Refusal) (d : Card) → not_written d (number_of r) ≡ read c f l 0
      → refused (number_of r) ≡ decided (held_tests c f) b refused
  refused-so b refused r d w =
      handed-on (readings c) wrote refl b refused (held_tests c f) r (ap (λ (a : ReadValues). a.refusal) (w ∙ by_two wrote (not_written c)))

  -- a reading that wrote k bytes wrote the text
  pub said : (k : ℕ) (d : Card) → written_out k d ≡ read c f l 0
      → (d ≡ card_read c f) × (take k (buffer_after c f l 0) ≡ read_text c f) × (k ≤ longest)
  unfolding read_text card_read
  said k d w =
      let same = w ∙ by_two wrote (not_written c) ∙ sym (wrote_so wrote (not_written c) k d w) in
      let t = wrote_so (text z) refusal_text k d w in
      let n = ap (λ (a : ReadValues). a.length) same in
      let s = text-fits z small in (
        ap (λ (a : ReadValues). a.card) same ∙ wrote_so (read_card c f) (λ k. c) k d w,
        ap (take k) (by_two (over l 0 (text z)) (λ k. l) ∙ sym (wrote_so (over l 0 (text z)) (λ k. l) k d w)) ∙ take_at (text z) _ k (sym n) ∙ t,
        omega arith,
      )

  -- one that was refused was refused by the field
  pub not-said : (r : Refusal) (d : Card) → not_written d (number_of r) ≡ read c f l 0 → (refusal_text (number_of r) ≡ read_text c f) × (d ≡ card_read c f)
  unfolding read_text card_read
  not-said r d w =
      let same = w ∙ by_two wrote (not_written c) ∙ sym (refused-so wrote (not_written c) r d w) in
      (refused-so (text z) refusal_text r d w, ap (λ (a : ReadValues). a.card) same ∙ refused-so (read_card c f) (λ k. c) r d w)
