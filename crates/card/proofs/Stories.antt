-- How the story of a confirmed number grows by calls in front of the others: by calls of which no hearing for the field stands, and by a call that
-- brings the field on. And of calls that undo a hearing from before them, the part up to that undo.
use mathlib.Core.Path.{◌≡◌, sym, ap, subst, ◌∙◌}
use mathlib.Core.Bool.{false}
use mathlib.Core.List.{List, [], ◌∷◌, ◌++◌, append_assoc}
use Prim.Native.Nat.{ℕ}
use lib.IntN.{ℤ}
use Rattle.digits.specs.Text.{text}
use Rattle.digits.specs.Writing.{over}
use Rattle.card.specs.Fields.{field_of, Before}
use Rattle.card.specs.Calls.{buffer_after}
use Rattle.card.specs.declared.Field.{Field}
use Rattle.card.specs.declared.Field.TheVariants.{Heard, Read, Confirmed}
use Rattle.card.specs.declared.Card.{Card}
use Rattle.card.proofs.Clash.{clash}
use Rattle.card.specs.History.{Call, hear, read, confirm, undo, after, refusal, after_all, is_undone, NothingStands, AcceptedAmong, ConfirmedAmong, ReadOutAmong, HeardAmong, Story, stood_confirmed, stood_read, stood_heard, was_heard, PutBackAmong}
use Rattle.card.proofs.Hearings.{same-kept}
use Rattle.card.proofs.Histories.{after-append, nothing-append, no-calls}

-- ---- calls in front of which no hearing for f stands: what came after them still did
module _ (c : Card) (f : ℤ) (front : List Call) where
  among-longer : {x : Call} {calls : List Call} → AcceptedAmong (after_all c front) x calls → AcceptedAmong c x (front ++ calls)
  among-longer {x} a = record {
    earlier = front ++ a.earlier;
    later = a.later;
    order = ap (λ l. front ++ l) a.order ∙ simp append_assoc;
    accepts = ap (λ d. refusal d x) (after-append c front a.earlier) ∙ a.accepts;
  }

  heard-longer : {n : ℤ} {calls : List Call} → HeardAmong (after_all c front) f n calls → HeardAmong c f n (front ++ calls)
  unfolding among-longer
  heard-longer {n} r = record {
    call = among-longer r.call;
    stands = r.stands;
    read_out = subst (λ d. ReadOutAmong (after d (hear f n)) f n r.call.later) (sym (after-append c front r.call.earlier)) r.read_out;
  }

  module _ (h : NothingStands f front) where
    confirmed-longer : {calls : List Call} → ConfirmedAmong (after_all c front) f calls → ConfirmedAmong c f (front ++ calls)
    unfolding among-longer
    confirmed-longer r =
        record { call = among-longer r.call; quiet = (nothing-append f front r.call.earlier h r.quiet.0, r.quiet.1) }

    read-longer : {n : ℤ} {calls : List Call} → ReadOutAmong (after_all c front) f n calls → ReadOutAmong c f n (front ++ calls)
    unfolding among-longer
    read-longer {n} r =
        let a = sym (after-append c front r.call.earlier) in
        record {
          buffer = r.buffer;
          place = r.place;
          call = among-longer r.call;
          shown = subst (λ d. buffer_after d f r.buffer r.place ≡ over r.buffer r.place (text n)) a r.shown;
          quiet = nothing-append f front r.call.earlier h r.quiet;
          confirmed = subst (λ d. ConfirmedAmong (after d (read f r.buffer r.place)) f r.call.later) a r.confirmed;
        }

    pub longer : {n : ℤ} {calls : List Call} → field_of (after_all c front) f ≡ field_of c f → Story (after_all c front) f n calls → Story c f n (front ++ calls)
    longer w (stood_confirmed k q) = stood_confirmed (sym w ∙ k) (nothing-append f front _ h q)
    longer w (stood_read k q) = stood_read (sym w ∙ k) (confirmed-longer q)
    longer w (stood_heard k q) = stood_heard (sym w ∙ k) (read-longer q)
    longer w (was_heard r) = was_heard (heard-longer r)

-- ---- a call x in front that brings the field on: the story of the calls after it, and then with it
module _ (c : Card) (f n : ℤ) (x : Call) (calls : List Call) where
  first : {y : Call} → x ≡ y → refusal c x ≡ 0 → AcceptedAmong c y (x ∷ calls)
  unfolding after_all
  first e r = record { earlier = []; later = calls; order = ap (λ y. y ∷ calls) e; accepts = subst (λ y. refusal c y ≡ 0) e r }

  later-heard : HeardAmong (after c x) f n calls → Story c f n (x ∷ calls)
  unfolding after_all
  later-heard r = was_heard (heard-longer c f (x ∷ []) r)

  pub told-heard : (m : ℤ) → x ≡ hear f m → refusal c x ≡ 0 → field_of (after c x) f ≡ Heard m → is_undone calls ≡ false → Story (after c x) f n calls
      → Story c f n (x ∷ calls)
  unfolding after_all first
  told-heard m e r w u (stood_confirmed k q) = clash (cc)
  told-heard m e r w u (stood_read k q) = clash (cc)
  told-heard m e r w u (stood_heard k q) =
      let y : x ≡ hear f n = (let z : m ≡ n = cc in e ∙ ap (hear f) z) in
      was_heard (record { call = first y r; stands = u; read_out = subst (λ y. ReadOutAmong (after c y) f n calls) y q })
  told-heard m e r w u (was_heard s) = later-heard s

  pub told-read : (m : ℤ) (buffer : List ℕ) (place : ℕ) → x ≡ read f buffer place → refusal c x ≡ 0
      → buffer_after c f buffer place ≡ over buffer place (text m) → field_of c f ≡ Heard m → field_of (after c x) f ≡ Read m
      → Story (after c x) f n calls → Story c f n (x ∷ calls)
  unfolding after_all first
  told-read m buffer place e r b h w (stood_confirmed k q) = clash (cc)
  told-read m buffer place e r b h w (stood_read k q) =
      let z : m ≡ n = cc in
      stood_heard (h ∙ ap Heard z)
      (record {
        buffer = buffer;
        place = place;
        call = first e r;
        shown = subst (λ k. buffer_after c f buffer place ≡ over buffer place (text k)) z b;
        quiet = no-calls f;
        confirmed = subst (λ y. ConfirmedAmong (after c y) f calls) e q;
      })
  told-read m buffer place e r b h w (stood_heard k q) = clash (cc)
  told-read m buffer place e r b h w (was_heard s) = later-heard s

  pub told-confirmed : (m : ℤ) → x ≡ confirm f → refusal c x ≡ 0 → field_of c f ≡ Read m → field_of (after c x) f ≡ Confirmed m
      → Story (after c x) f n calls → Story c f n (x ∷ calls)
  unfolding first
  told-confirmed m e r h w (stood_confirmed k q) =
      let z : m ≡ n = cc in stood_read (h ∙ ap Read z) (record { call = first e r; quiet = (no-calls f, q) })
  told-confirmed m e r h w (stood_read k q) = clash (cc)
  told-confirmed m e r h w (stood_heard k q) = clash (cc)
  told-confirmed m e r h w (was_heard s) = later-heard s

-- ---- calls that undo a hearing from before them: those up to that undo, and what the field is then
module _ {c : Card} {f n : ℤ} {calls : List Call} (b : PutBackAmong c f n calls) where
  abbrev pub up_to_undo : List Call
  up_to_undo = b.between ++ undo ∷ []

  pub in_two : calls ≡ up_to_undo ++ b.rest
  in_two = b.order ∙ simp append_assoc

  pub card-there : after_all c up_to_undo ≡ after (after_all c b.between) undo
  unfolding after_all
  card-there = after-append c b.between (undo ∷ [])

  pub put-back : {v : Field} → c.latest ≡ Before f v → field_of (after (after_all c b.between) undo) f ≡ v
  put-back {v} l = b.back ∙ (same-kept (sym b.kept ∙ l)).1
