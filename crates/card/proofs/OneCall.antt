-- What one call does to a field, and to what is kept for an undo: a hearing makes the field heard and keeps what it was, a reading makes heard read, a
-- confirming read confirmed, an undo puts back what is kept, and any other call leaves the field.
use mathlib.Core.Path.{◌≡◌, refl, sym, ap, subst, ◌∙◌}
use mathlib.Core.Bool.{Bool, true, false}
use mathlib.Core.Logic.{◌≢◌}
use mathlib.Core.List.{List, ◌∷◌}
use Rattle.std.specs.Prelude.{Option, Some, None}
use Prim.Native.Nat.{ℕ, suc}
use native.Mathlib.Omega.{arith}
use lib.IntN.{ℤ, pos, ℤ_discrete}
use lib.ListN.{length, length-set}
use lib.Seq.{get_or-set_same, get_or-set_other}
use Rattle.digits.specs.Text.{text}
use Rattle.digits.specs.Writing.{fits, over}
use Rattle.card.specs.Fields.{is_held, is_read, number_in, is_field, slot_index, field_of, put, keeping, Full, Before}
use Rattle.card.specs.Calls.{read_state, buffer_after}
use Rattle.card.specs.declared.Field.{Field}
use Rattle.card.specs.declared.Field.TheVariants.{Empty, Heard, Read, Confirmed}
use Rattle.card.specs.declared.Latest.{Latest}
use Rattle.card.specs.declared.Card.{Card}
use Rattle.card.proofs.FieldNumbers.{field-number, index_below, field_found, no_field}
use Rattle.card.proofs.CallAnswers.{confirm-no-field, confirm-not-read, confirm-accepted, read-no-field, read-empty, read-no-room, read-written, undo-nothing, undo-no-field, undo-accepted}
use Rattle.card.proofs.Hearings.{heard-field, hear-heard, hear-unheard, same-kept}
use Rattle.card.proofs.States.{is-read}
use Rattle.card.proofs.Clash.{clash}
use Rattle.card.specs.History.{Call, hear, read, confirm, undo, after, refusal, is_heard, settles, is_undone}

-- a field is put at one index and no other, whatever is kept
pub put_same : (c : Card) (f : ℤ) (v : Field) (l : Option Latest) → Full c → is_field f ≡ true → field_of (keeping (put c (slot_index f) v) l) f ≡ v
put_same c f v l full e =
    let h = index_below f e in
    sym (field_found f e (keeping (put c (slot_index f) v) l)) ∙ get_or-set_same c.fields (slot_index f) v Empty (omega arith)

put-other-at : (c : Card) (f g : ℤ) (v : Field) (l : Option Latest) (b : Bool) → is_field f ≡ b → is_field g ≡ true → f ≢ g
    → field_of (keeping (put c (slot_index g) v) l) f ≡ field_of c f
put-other-at c f g v l false e k n = sym (no_field f e (keeping (put c (slot_index g) v) l)) ∙ no_field f e c
put-other-at c f g v l true e k n =
    let apart = get_or-set_other c.fields (slot_index g) (slot_index f) v Empty
    (λ q. n (field-number f e ∙ ap (λ i. pos (suc i)) q ∙ sym (field-number g k))) in
    sym (field_found f e (keeping (put c (slot_index g) v) l)) ∙ apart ∙ field_found f e c

pub put_other : (c : Card) (f g : ℤ) (v : Field) (l : Option Latest) → is_field g ≡ true → f ≢ g → field_of (keeping (put c (slot_index g) v) l) f ≡ field_of c f
put_other c f g v l = put-other-at c f g v l (is_field f) refl

-- ---- the effects
-- call x is no accepted hearing for f
abbrev pub NotHeard : ℤ → Call → Type 0
NotHeard f x = (n : ℤ) → x ≡ hear f n → is_heard f n ≡ true → ⊥

-- what call x, which leaves f, makes of a hearing for f that is kept, where l is kept afterwards: it leaves that too, or no hearing for f is kept any
-- more, and the one that was is not undone
pub data Passes (c : Card) (f : ℤ) (x : Call) (l : Option Latest) : Type 0 where
  stays : settles x ≡ false → l ≡ c.latest → Passes c f x l
  gone : ((v : Field) → l ≢ Before f v) → ((v : Field) (calls : List Call) → c.latest ≡ Before f v → is_undone (x ∷ calls) ≡ false) → Passes c f x l

-- what call x makes of field f, which is v afterwards, where l is kept afterwards
pub data Effect (c : Card) (f : ℤ) (x : Call) (v : Field) (l : Option Latest) : Type 0 where
  heard : (n : ℤ) → x ≡ hear f n → refusal c x ≡ 0 → is_heard f n ≡ true → v ≡ Heard n → l ≡ Before f (field_of c f) → Effect c f x v l
  read_out : (n : ℤ) (buffer : List ℕ) (place : ℕ) → x ≡ read f buffer place → refusal c x ≡ 0
      → buffer_after c f buffer place ≡ over buffer place (text n) → field_of c f ≡ Heard n → v ≡ Read n → Passes c f x l → Effect c f x v l
  confirmed : (n : ℤ) → x ≡ confirm f → refusal c x ≡ 0 → field_of c f ≡ Read n → v ≡ Confirmed n → Passes c f x l → Effect c f x v l
  undone : x ≡ undo → c.latest ≡ Before f v → l ≡ None → Effect c f x v l
  kept : NotHeard f x → v ≡ field_of c f → Passes c f x l → Effect c f x v l

-- what a call does to every field but one
abbrev pub Leaves : Card → ℤ → Call → Option Latest → Type 0
Leaves c f x l = NotHeard f x × Passes c f x l

-- a call leaves the card, or it puts the next state into one field and leaves the others
pub data Step (c : Card) (x : Call) : Type 0 where
  refused : after c x ≡ c → ((f : ℤ) → is_field f ≡ true → Leaves c f x c.latest) → Step c x
  puts : (g : ℤ) (v : Field) (l : Option Latest) → is_field g ≡ true → refusal c x ≡ 0 → after c x ≡ keeping (put c (slot_index g) v) l → Effect c g x v l
      → ((f : ℤ) → f ≢ g → Leaves c f x l) → Step c x

-- ---- hearing
module _ (c : Card) (g n : ℤ) where
  -- after a hearing for g none for another field is kept, nor can an earlier one be undone
  hear-leaves : (v : Field) → is_heard g n ≡ true → (f : ℤ) → f ≢ g → Leaves c f (hear g n) (Before g v)
  unfolding is_undone
  hear-leaves v h f r = (λ m q k. r (cc), gone (λ w q. r (sym (same-kept q).0)) (λ w calls q. rw h))

  hear-step : (b : Bool) → is_heard g n ≡ b → Step c (hear g n)
  hear-step false h = refused (hear-unheard c g n h).0 (λ f i. (λ m q k. clash (cc), stays h refl))
  hear-step true h =
      let a = hear-heard c g n h in
      let r = sym (ap (λ a. a.refusal) a) in
      puts g (Heard n) (Before g (field_of c g)) (heard-field g n h).0 r (sym (ap (λ a. a.card) a)) (heard n refl r h refl refl)
      (hear-leaves (field_of c g) h)

-- ---- confirming and reading
module _ (c : Card) (g : ℤ) where
  confirm-leaves : (f : ℤ) → Leaves c f (confirm g) c.latest
  confirm-leaves f = (λ n e h. clash (cc), stays refl refl)

  confirm-step : (a b : Bool) → is_field g ≡ a → is_read (field_of c g) ≡ b → Step c (confirm g)
  confirm-step false b e k = refused (sym (ap (λ a. a.card) (confirm-no-field c g e))) (λ f i. confirm-leaves f)
  confirm-step true false e k = refused (sym (ap (λ a. a.card) (confirm-not-read c g e k))) (λ f i. confirm-leaves f)
  confirm-step true true e k =
      let h = confirm-accepted c g e k in
      let r = sym (ap (λ a. a.refusal) h) in
      puts g (Confirmed (number_in (field_of c g))) c.latest e r (sym (ap (λ a. a.card) h))
      (confirmed (number_in (field_of c g)) refl r (is-read (field_of c g) k) refl (confirm-leaves g).1)
      (λ f n. confirm-leaves f)

  module _ (buffer : List ℕ) (place : ℕ) where
    read-leaves : (f : ℤ) → Leaves c f (read g buffer place) c.latest
    read-leaves f = (λ n e h. clash (cc), stays refl refl)

    read-refused : after c (read g buffer place) ≡ c → Step c (read g buffer place)
    read-refused e = refused e (λ f i. read-leaves f)

    -- an accepted reading makes a heard field read; a field that is read again keeps its state
    read-effect : (s : Field) → s ≡ field_of c g → is_held s ≡ true → refusal c (read g buffer place) ≡ 0
        → buffer_after c g buffer place ≡ over buffer place (text (number_in s)) → Effect c g (read g buffer place) (read_state s) c.latest
    read-effect Empty k h r b = clash (cc)
    read-effect (Heard n) k h r b = read_out n buffer place refl r b (sym k) refl (read-leaves g).1
    read-effect (Read n) k h r b = kept (read-leaves g).0 k (read-leaves g).1
    read-effect (Confirmed n) k h r b = kept (read-leaves g).0 k (read-leaves g).1

    read_step : (a b t : Bool) → is_field g ≡ a → is_held (field_of c g) ≡ b → fits buffer place (number_in (field_of c g)) ≡ t → Step c (read g buffer place)
    read_step false b t e k f = read-refused (sym (ap (λ r. r.card) (read-no-field c g buffer place e).0))
    read_step true false t e k f = read-refused (sym (ap (λ r. r.card) (read-empty c g buffer place e k).0))
    read_step true true false e k f = read-refused (sym (ap (λ r. r.card) (read-no-room c g buffer place e k _ (rw f) refl).0))
    read_step true true true e k f =
        let h = read-written c g buffer place e k (length (text (number_in (field_of c g)))) (over buffer place (text (number_in (field_of c g)))) (rw f) (rw f) in
        let r = sym (ap (λ r. r.refusal) h.0) in
        puts g (read_state (field_of c g)) c.latest e r (sym (ap (λ r. r.card) h.0))
        (read-effect (field_of c g) refl k r (sym h.1))
        (λ f n. read-leaves f)

-- ---- undoing
module _ (c : Card) where
  -- where no hearing for f is kept, an undo leaves f, and so does it keep none
  undo-leaves : (f : ℤ) (l : Option Latest) → ((v : Field) → l ≢ Before f v) → ((v : Field) → c.latest ≢ Before f v) → Leaves c f undo l
  undo-leaves f l h k = (λ n e t. clash (cc), gone h (λ v calls e. absurd (k v e)))

  undo-refused : ((f : ℤ) → is_field f ≡ true → (v : Field) → c.latest ≢ Before f v) → after c undo ≡ c → Step c undo
  undo-refused h e = refused e (λ f i. undo-leaves f c.latest (h f i) (h f i))

  undo-of : (g : ℤ) (v : Field) (b : Bool) → c.latest ≡ Before g v → is_field g ≡ b → Step c undo
  undo-of g v false l e = undo-refused (λ f i w q. let k = (same-kept (sym l ∙ q)).0 in clash (cc)) (sym (ap (λ a. a.card) (undo-no-field c g v l e)))
  undo-of g v true l e =
      let h = undo-accepted c g v l e in
      puts g v None e (sym (ap (λ a. a.refusal) h)) (sym (ap (λ a. a.card) h)) (undone refl l refl)
      (λ f n. undo-leaves f None (λ w q. clash (cc)) (λ w q. n (sym (same-kept (sym l ∙ q)).0)))

  undo-step : (l : Option Latest) → c.latest ≡ l → Step c undo
  undo-step None l = undo-refused (λ f i v q. clash (cc)) (sym (ap (λ a. a.card) (undo-nothing c l)))
  undo-step (Some k) l = undo-of k.field k.before (is_field k.field) l refl

-- ---- any call
pub step : (c : Card) (x : Call) → Step c x
step c (hear g n) = hear-step c g n (is_heard g n) refl
step c (read g buffer place) =
    read_step c g buffer place (is_field g) (is_held (field_of c g)) (fits buffer place (number_in (field_of c g))) refl refl refl
step c (confirm g) = confirm-step c g (is_field g) (is_read (field_of c g)) refl refl
step c undo = undo-step c c.latest refl

-- a card stays full
step-full : (c : Card) {x : Call} → Full c → Step c x → Full (after c x)
step-full c full (refused e h) = ap (λ d. length d.fields) e ∙ full
step-full c full (puts g v l i r e w h) = ap (λ d. length d.fields) e ∙ length-set c.fields (slot_index g) v ∙ full

pub after-full : (c : Card) (x : Call) → Full c → Full (after c x)
after-full c x full = step-full c full (step c x)

-- and each field sees one of the five effects
put-effect : (c : Card) (f g : ℤ) {x : Call} (v : Field) (l : Option Latest) → Full c → is_field g ≡ true → Effect c g x v l → ((f : ℤ) → f ≢ g → Leaves c f x l)
    → Dec (f ≡ g) → Effect c f x (field_of (keeping (put c (slot_index g) v) l) f) l
put-effect c f g {x} v l full i w h (yes q) =
    subst (λ k. Effect c k x (field_of (keeping (put c (slot_index g) v) l) k) l) (sym q)
    (subst (λ u. Effect c g x u l) (sym (put_same c g v l full i)) w)
put-effect c f g v l full i w h (no q) = kept (h f q).0 (put_other c f g v l i q) (h f q).1

step-effect : (c : Card) (f : ℤ) {x : Call} → Full c → is_field f ≡ true → Step c x → Effect c f x (field_of (after c x) f) (after c x).latest
step-effect c f {x} full i (refused e h) =
    subst (λ d. Effect c f x (field_of d f) d.latest) (sym e) (kept (h f i).0 refl (h f i).1)
step-effect c f {x} full i (puts g v l k r e w h) =
    subst (λ d. Effect c f x (field_of d f) d.latest) (sym e) (put-effect c f g v l full k w h (ℤ_discrete f g))

pub effect : (c : Card) (f : ℤ) (x : Call) → Full c → is_field f ≡ true → Effect c f x (field_of (after c x) f) (after c x).latest
effect c f x full i = step-effect c f full i (step c x)
