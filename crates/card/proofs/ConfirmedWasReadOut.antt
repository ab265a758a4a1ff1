-- A confirmed number was read out. After any calls from any card, in any order and of any number, undos among them: where field f stands confirmed with
-- n, n was heard for f, which was not undone, after that its text was written out by an accepted reading, after that it was confirmed, and every hearing
-- for f since that one was refused or undone. What of the three did not come among the calls stood on the card already; and where the calls undo a
-- hearing for f that came before them, it stood there before that hearing. On a fresh card nothing did, so there every confirmed number was heard, read
-- out and confirmed, with no exception.
use mathlib.Core.Path.{◌≡◌, refl, sym, ap, subst, ◌∙◌}
use mathlib.Core.Bool.{Bool, true, false}
use mathlib.Core.Logic.{◌⊎◌, inl, inr}
use mathlib.Core.List.{List, [], ◌∷◌}
use Rattle.std.specs.Prelude.{None}
use lib.IntN.{ℤ}
use Rattle.card.specs.Fields.{is_field, field_of, Full, fresh_card, Before}
use Rattle.card.specs.declared.Field.{Field}
use Rattle.card.specs.declared.Field.TheVariants.{Empty, Confirmed}
use Rattle.card.specs.declared.Card.{Card}
use Rattle.card.proofs.FieldNumbers.{no_field}
use Rattle.card.proofs.Clash.{clash}
use Rattle.card.specs.History.{Call, after, after_all, is_undone, leaves_undo, NothingStands, HeardAmong, Story, stood_confirmed, stood_read, stood_heard, was_heard, PutBackAmong}
use Rattle.card.proofs.OneCall.{Passes, stays, gone, Effect, heard, read_out, confirmed, undone, kept, effect, after-full}
use Rattle.card.proofs.Histories.{up-to-undo, nothing-between, no-calls, one-call}
use Rattle.card.proofs.Stories.{longer, told-heard, told-read, told-confirmed, up_to_undo, in_two, card-there, put-back}
use Rattle.card.proofs.Starts.{fresh-is-empty}

-- the calls do not undo a hearing for f that came before them, and there is the story; or they do, and it goes on after the undo
abbrev NotUndone : Card → ℤ → List Call → Type 0
NotUndone c f calls = (v : Field) → c.latest ≡ Before f v → is_undone calls ≡ false

data Told (c : Card) (f n : ℤ) (calls : List Call) : Type 0 where
  goes_on : NotUndone c f calls → Story c f n calls → Told c f n calls
  put_back : PutBackAmong c f n calls → Told c f n calls

module _ (c : Card) (f n : ℤ) (x : Call) (calls : List Call) where
  -- a call in front that leaves what is kept, or after which no hearing for f is kept
  still-not-undone : Passes c f x (after c x).latest → NotUndone (after c x) f calls → NotUndone c f (x ∷ calls)
  unfolding is_undone
  still-not-undone (stays e l) u v k = rw e (u v (l ∙ k))
  still-not-undone (gone h k) u v q = k v calls q

  still-put-back : Passes c f x (after c x).latest → PutBackAmong (after c x) f n calls → PutBackAmong c f n (x ∷ calls)
  unfolding after_all leaves_undo
  still-put-back (stays e l) b = record {
    between = x ∷ b.between;
    rest = b.rest;
    order = ap (λ l. x ∷ l) b.order;
    leaves = rw e b.leaves;
    before = b.before;
    kept = sym l ∙ b.kept;
    back = b.back;
    story = b.story;
  }
  still-put-back (gone h k) b = absurd (h b.before b.kept)

  -- a hearing that is undone is as if it had never been: the story goes on after the undo
  past-undo : (after c x).latest ≡ Before f (field_of c f) → PutBackAmong (after c x) f n calls → Story c f n (x ∷ calls)
  unfolding after_all NothingStands
  past-undo l b =
      subst (Story c f n) (ap (λ l. x ∷ l) (sym (in_two b)))
      (longer c f (x ∷ up_to_undo b) (λ m e t. up-to-undo b.between [] b.leaves, nothing-between f b.between b.leaves)
      (ap (λ d. field_of d f) (card-there b) ∙ put-back b l)
      (subst (λ d. Story d f n b.rest) (sym (card-there b)) b.story))

  -- the effect of the first call, and the story of the others
  tell : Effect c f x (field_of (after c x) f) (after c x).latest → Told (after c x) f n calls → Told c f n (x ∷ calls)
  unfolding after_all is_undone leaves_undo
  tell (heard m e r t w l) (goes_on u s) = goes_on (λ v k. rw (e, t)) (told-heard c f n x calls m e r w (u _ l) s)
  tell (heard m e r t w l) (put_back b) = goes_on (λ v k. rw (e, t)) (past-undo l b)
  tell (read_out m buffer place e r b h w p) (goes_on u s) = goes_on (still-not-undone p u) (told-read c f n x calls m buffer place e r b h w s)
  tell (read_out m buffer place e r b h w p) (put_back k) = put_back (still-put-back p k)
  tell (confirmed m e r h w p) (goes_on u s) = goes_on (still-not-undone p u) (told-confirmed c f n x calls m e r h w s)
  tell (confirmed m e r h w p) (put_back k) = put_back (still-put-back p k)
  tell (undone e k l) (goes_on u s) =
      put_back
      (record {
        between = [];
        rest = calls;
        order = ap (λ y. y ∷ calls) e;
        leaves = refl;
        before = field_of (after c x) f;
        kept = k;
        back = ap (λ y. field_of (after c y) f) (sym e);
        story = subst (λ y. Story (after c y) f n calls) e s;
      })
  tell (undone e k l) (put_back b) = let z = sym l ∙ b.kept in clash (cc)
  tell (kept h w p) (goes_on u s) = goes_on (still-not-undone p u) (longer c f (x ∷ []) (one-call f x h) w s)
  tell (kept h w p) (put_back b) = put_back (still-put-back p b)

told : (c : Card) (calls : List Call) (f n : ℤ) → Full c → is_field f ≡ true → field_of (after_all c calls) f ≡ Confirmed n → Told c f n calls
unfolding after_all is_undone
told c [] f n full i e = goes_on (λ v k. refl) (stood_confirmed e (no-calls f))
told c (x ∷ calls) f n full i e = tell c f n x calls (effect c f x full i) (told (after c x) calls f n (after-full c x full) i e)

-- ---- from any card
-- a number that no field has is as good as empty
confirmed-at : (c : Card) (f n : ℤ) (b : Bool) → is_field f ≡ b → field_of c f ≡ Confirmed n → is_field f ≡ true
confirmed-at c f n false i e = let z = no_field f i c in clash (cc)
confirmed-at c f n true i e = i

either : {c : Card} {f n : ℤ} {calls : List Call} → Told c f n calls → Story c f n calls ⊎ PutBackAmong c f n calls
either (goes_on u s) = inl s
either (put_back b) = inr b

pub confirmed-was-read-out : (c : Card) (calls : List Call) (f n : ℤ) → Full c → field_of (after_all c calls) f ≡ Confirmed n
    → Story c f n calls ⊎ PutBackAmong c f n calls
confirmed-was-read-out c calls f n full e =
    either (told c calls f n full (confirmed-at (after_all c calls) f n (is_field f) refl e) e)

-- ---- from a card on which there is nothing to undo
module _ (c : Card) (calls : List Call) (f n : ℤ) where
  from_settled : c.latest ≡ None → Story c f n calls ⊎ PutBackAmong c f n calls → Story c f n calls
  from_settled l (inl s) = s
  from_settled l (inr b) = let z = sym l ∙ b.kept in clash (cc)

  pub settled-was-read-out : Full c → c.latest ≡ None → field_of (after_all c calls) f ≡ Confirmed n → Story c f n calls
  settled-was-read-out full l e = from_settled l (confirmed-was-read-out c calls f n full e)

  -- of a field that was empty there
  from_empty : field_of c f ≡ Empty → Story c f n calls → HeardAmong c f n calls
  from_empty e (stood_confirmed k q) = clash (cc)
  from_empty e (stood_read k q) = clash (cc)
  from_empty e (stood_heard k q) = clash (cc)
  from_empty e (was_heard r) = r

  pub empty-was-read-out : Full c → c.latest ≡ None → field_of c f ≡ Empty → field_of (after_all c calls) f ≡ Confirmed n → HeardAmong c f n calls
  empty-was-read-out full l e k = from_empty e (settled-was-read-out full l k)

-- ---- from a fresh card, on which every field is empty
pub fresh-was-read-out : (calls : List Call) (f n : ℤ) → field_of (after_all fresh_card calls) f ≡ Confirmed n → HeardAmong fresh_card f n calls
fresh-was-read-out calls f n = empty-was-read-out fresh_card calls f n refl refl (fresh-is-empty f)
