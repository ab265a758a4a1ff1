-- Calls in two parts: the card after them, what they undo and what stands of them; and calls that leave what is kept for an undo.
use mathlib.Core.Path.{◌≡◌, refl, ap, ◌∙◌}
use mathlib.Core.Bool.{Bool, true, false, cond}
use mathlib.Core.List.{List, [], ◌∷◌, ◌++◌}
use lib.IntN.{ℤ}
use Rattle.refusal.proofs.Decisions.{holds-decided}
use Rattle.card.specs.Fields.{Full}
use Rattle.card.specs.Calls.{CardValues, ReadValues, refused, not_written, confirm_tests, read_tests}
use Rattle.card.specs.declared.Card.{Card}
use Rattle.card.proofs.Hearings.{hear-unheard}
use Rattle.card.proofs.Clash.{clash}
use Rattle.card.specs.History.{Call, hear, read, confirm, undo, after, after_all, settles, is_undo, is_undone, leaves_undo, NothingStands}
use Rattle.card.proofs.OneCall.{NotHeard, after-full}

pub after-append : (c : Card) (calls later : List Call) → after_all c (calls ++ later) ≡ after_all (after_all c calls) later
unfolding after_all
after-append c [] later = refl
after-append c (x ∷ calls) later = after-append (after c x) calls later

pub stays-full : (c : Card) (calls : List Call) → Full c → Full (after_all c calls)
unfolding after_all
stays-full c [] full = full
stays-full c (x ∷ calls) full = stays-full (after c x) calls (after-full c x full)

-- ---- what is undone, and what stands
-- the first call, where it does not settle what is kept
pub unsettled-first : (b t : Bool) → cond b false t ≡ true → (b ≡ false) × (t ≡ true)
unsettled-first true t e = clash (cc)
unsettled-first false t e = (refl, e)

-- what is undone stays so by later calls
first-undoes : (b u s t : Bool) → (s ≡ true → t ≡ true) → cond b u s ≡ true → cond b u t ≡ true
first-undoes true u s t h e = e
first-undoes false u s t h e = h e

undone-append : (calls later : List Call) → is_undone calls ≡ true → is_undone (calls ++ later) ≡ true
unfolding is_undone
undone-append [] later e = clash (cc)
undone-append (x ∷ calls) later e = first-undoes (settles x) (is_undo x) _ _ (undone-append calls later) e

pub nothing-append : (f : ℤ) (calls later : List Call) → NothingStands f calls → NothingStands f later → NothingStands f (calls ++ later)
unfolding NothingStands
nothing-append f [] later h k = k
nothing-append f (x ∷ calls) later h k = (λ n e t. undone-append calls later (h.0 n e t), nothing-append f calls later h.1 k)

-- calls up to an undo, and any after it: they undo what is kept, and of those up to it no hearing stands
pub up-to-undo : (between rest : List Call) → leaves_undo between ≡ true → is_undone (between ++ undo ∷ rest) ≡ true
unfolding is_undone leaves_undo
up-to-undo [] rest e = refl
up-to-undo (x ∷ between) rest e =
    let h = unsettled-first (settles x) (leaves_undo between) e in rw h.0 (up-to-undo between rest h.1)

pub nothing-between : (f : ℤ) (between : List Call) → leaves_undo between ≡ true → NothingStands f (between ++ undo ∷ [])
unfolding NothingStands leaves_undo
nothing-between f [] e = (λ n q t. clash (cc), tt)
nothing-between f (x ∷ between) e =
    let h = unsettled-first (settles x) (leaves_undo between) e in (λ n q t. up-to-undo between [] h.1, nothing-between f between h.1)

pub no-calls : (f : ℤ) → NothingStands f []
unfolding NothingStands
no-calls f = tt

pub one-call : (f : ℤ) (x : Call) → NotHeard f x → NothingStands f (x ∷ [])
unfolding NothingStands
one-call f x h = (λ n e t. absurd (h n e t), tt)

-- ---- calls that leave what is kept for an undo
module _ (c : Card) where
  one-leaves : (x : Call) → settles x ≡ false → (after c x).latest ≡ c.latest
  one-leaves (hear f n) e = ap (λ d. d.latest) (hear-unheard c f n e).0
  one-leaves (read f buffer place) e =
      holds-decided (λ (v : ReadValues). v.card.latest ≡ c.latest) (read_tests c f buffer place) _ (not_written c) refl (refl, (refl, (refl, tt)))
  one-leaves (confirm f) e =
      holds-decided (λ (v : CardValues). v.card.latest ≡ c.latest) (confirm_tests c f) _ (refused c) refl (refl, (refl, tt))
  one-leaves undo e = clash (cc)

pub leaves-latest : (c : Card) (calls : List Call) → leaves_undo calls ≡ true → (after_all c calls).latest ≡ c.latest
unfolding after_all leaves_undo
leaves-latest c [] e = refl
leaves-latest c (x ∷ calls) e =
    let h = unsettled-first (settles x) (leaves_undo calls) e in leaves-latest (after c x) calls h.1 ∙ one-leaves c x h.0
