-- A number heard anew is never confirmed unread, undo or not. From any card: after an accepted hearing for field f, as long as no reading of f is
-- accepted, f stands confirmed only where that hearing was undone, and then with the number that was read out for f before the hearing.
use mathlib.Core.Path.{◌≡◌, refl, sym, ap, subst, ◌∙◌}
use mathlib.Core.Bool.{true}
use mathlib.Core.Logic.{◌⊎◌, inl, inr}
use mathlib.Core.List.{List, ◌∷◌, ◌++◌, append_assoc}
use lib.IntN.{ℤ}
use Rattle.card.specs.Fields.{field_of, Full, fresh_card}
use Rattle.card.specs.declared.Field.{Field}
use Rattle.card.specs.declared.Field.TheVariants.{Heard, Read, Confirmed}
use Rattle.card.specs.declared.Card.{Card}
use Rattle.card.proofs.Clash.{clash}
use Rattle.card.specs.History.{Call, hear, read, undo, after, refusal, after_all, is_undone, NothingReadOut, WasReadOn, Story, stood_confirmed, stood_read, stood_heard, was_heard, PutBackAmong}
use Rattle.card.proofs.OneCall.{after-full}
use Rattle.card.proofs.Histories.{after-append, stays-full, up-to-undo}
use Rattle.card.proofs.Stories.{up_to_undo, in_two, card-there, put-back}
use Rattle.card.proofs.UndoPutsBack.{now-heard, now-kept}
use Rattle.card.proofs.ConfirmedWasReadOut.{confirmed-was-read-out}

-- a story without an accepted reading: the number was read out on the card already
unread-story : (c : Card) (f m : ℤ) (calls : List Call) → NothingReadOut c f calls → Story c f m calls → WasReadOn c f m
unfolding after_all
unread-story c f m calls unread (stood_confirmed e q) = inr e
unread-story c f m calls unread (stood_read e q) = inl e
unread-story c f m calls unread (stood_heard e r) =
    let a = r.call in absurd (unread a.earlier a.later r.buffer r.place a.order a.accepts)
unread-story c f m calls unread (was_heard r) =
    let o = r.read_out in
    let a = r.call in
    let b = o.call in
    absurd
    (unread (a.earlier ++ hear f m ∷ b.earlier) b.later o.buffer o.place
    (a.order ∙ ap (λ l. a.earlier ++ hear f m ∷ l) b.order ∙ simp append_assoc)
    (ap (λ d. refusal d (read f o.buffer o.place)) (after-append c a.earlier (hear f m ∷ b.earlier)) ∙ b.accepts))

-- calls after others: no reading of f is accepted among them either
later-unread : (c : Card) (f : ℤ) (calls front rest : List Call) → calls ≡ front ++ rest → NothingReadOut c f calls → NothingReadOut (after_all c front) f rest
later-unread c f calls front rest o unread earlier later buffer place e r =
    unread (front ++ earlier) later buffer place (o ∙ ap (λ l. front ++ l) e ∙ simp append_assoc)
    (ap (λ d. refusal d (read f buffer place)) (after-append c front earlier) ∙ r)

-- a heard field was not read out
heard-unread : (v : Field) {k m : ℤ} → v ≡ Heard k → (v ≡ Read m) ⊎ (v ≡ Confirmed m) → ⊥
heard-unread v h (inl e) = clash (cc)
heard-unread v h (inr e) = clash (cc)

module _ (c : Card) (f n m : ℤ) (later : List Call) (full : Full c) (r : refusal c (hear f n) ≡ 0) (unread : NothingReadOut (after c (hear f n)) f later) where
  abbrev heard_card : Card
  heard_card = after c (hear f n)

  by-story : Story heard_card f m later ⊎ PutBackAmong heard_card f m later → (is_undone later ≡ true) × WasReadOn c f m
  unfolding after_all
  by-story (inl s) = absurd (heard-unread (field_of heard_card f) (now-heard c f n full r) (unread-story heard_card f m later unread s))
  by-story (inr b) =
      let u = subst (λ d. NothingReadOut d f b.rest) (card-there b) (later-unread heard_card f later (up_to_undo b) b.rest (in_two b) unread) in (
        ap is_undone b.order ∙ up-to-undo b.between b.rest b.leaves,
        subst (λ (v : Field). (v ≡ Read m) ⊎ (v ≡ Confirmed m)) (put-back b (now-kept c f n full r))
            (unread-story (after (after_all heard_card b.between) undo) f m b.rest u b.story),
      )

  pub unread-never-confirmed : field_of (after_all c (hear f n ∷ later)) f ≡ Confirmed m → (is_undone later ≡ true) × WasReadOn c f m
  unfolding after_all
  unread-never-confirmed e = by-story (confirmed-was-read-out heard_card later f m (after-full c (hear f n) full) e)

-- from a fresh card, after any calls
pub fresh-unread-never-confirmed : (calls : List Call) (f n m : ℤ) (later : List Call) → refusal (after_all fresh_card calls) (hear f n) ≡ 0
    → NothingReadOut (after (after_all fresh_card calls) (hear f n)) f later → field_of (after_all fresh_card (calls ++ hear f n ∷ later)) f ≡ Confirmed m
    → (is_undone later ≡ true) × WasReadOn (after_all fresh_card calls) f m
fresh-unread-never-confirmed calls f n m later r unread e =
    unread-never-confirmed (after_all fresh_card calls) f n m later (stays-full fresh_card calls refl) r unread
    (ap (λ d. field_of d f) (sym (after-append fresh_card calls (hear f n ∷ later))) ∙ e)
