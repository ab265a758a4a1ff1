-- An undo puts back what was. After an accepted hearing for field f on any card, and any calls that leave what is kept for an undo (readings and
-- confirmings of any field, of f too, and refused hearings), an undo is accepted: f is again what it was before that hearing, state and number, and every
-- other field stays as it is. Then there is nothing to undo until the next accepted hearing. On a card that keeps nothing there is nothing to undo either.
use mathlib.Core.Path.{◌≡◌, sym, ap, ◌∙◌}
use mathlib.Core.Bool.{true}
use mathlib.Core.List.{List, ◌∷◌}
use Rattle.std.specs.Prelude.{None}
use lib.IntN.{ℤ}
use Rattle.card.specs.Fields.{is_field, field_of, Full, Before}
use Rattle.card.specs.declared.Field.TheVariants.{Heard}
use Rattle.card.specs.declared.Card.{Card}
use Rattle.card.proofs.CallAnswers.{undo-nothing, undo-accepted}
use Rattle.card.proofs.Hearings.{heard-field, hear-heard, accepted-heard}
use Rattle.card.specs.History.{Call, hear, undo, after, refusal, after_all, leaves_undo, PutsBack}
use Rattle.card.proofs.OneCall.{put_same, put_other, after-full}
use Rattle.card.proofs.Histories.{stays-full, leaves-latest}

-- ---- after an accepted hearing the field is heard, and what it was is kept
module _ (c : Card) (f n : ℤ) (full : Full c) (r : refusal c (hear f n) ≡ 0) where
  pub accepted-field : is_field f ≡ true
  accepted-field = (heard-field f n (accepted-heard c f n r)).0

  pub now-heard : field_of (after c (hear f n)) f ≡ Heard n
  now-heard =
      ap (λ a. field_of a.card f) (sym (hear-heard c f n (accepted-heard c f n r)))
      ∙ put_same c f (Heard n) (Before f (field_of c f)) full accepted-field

  pub now-kept : (after c (hear f n)).latest ≡ Before f (field_of c f)
  now-kept = ap (λ a. a.card.latest) (sym (hear-heard c f n (accepted-heard c f n r)))

-- ---- the undo
-- where nothing is kept, calls that leave it so leave nothing to undo
pub nothing-to-undo : (c : Card) (calls : List Call) → c.latest ≡ None → leaves_undo calls ≡ true → refusal (after_all c calls) undo ≡ 18
nothing-to-undo c calls l h = sym (ap (λ a. a.refusal) (undo-nothing (after_all c calls) (leaves-latest c calls h ∙ l)))

pub undo-puts-back : (c : Card) (f n : ℤ) (between : List Call) → Full c → refusal c (hear f n) ≡ 0 → leaves_undo between ≡ true
    → PutsBack c f (after_all c (hear f n ∷ between))
unfolding after_all
undo-puts-back c f n between full r h =
    let i = accepted-field c f n full r in
    let v = field_of c f in
    let d = after_all (after c (hear f n)) between in
    let u = undo-accepted d f v (leaves-latest (after c (hear f n)) between h ∙ now-kept c f n full r) i in
    let card = sym (ap (λ a. a.card) u) in
    record {
      accepts = sym (ap (λ a. a.refusal) u);
      back = ap (λ k. field_of k f) card
          ∙ put_same d f v None (stays-full (after c (hear f n)) between (after-full c (hear f n) full)) i;
      others = λ g n. ap (λ k. field_of k g) card ∙ put_other d g f v None i n;
      spent = λ calls. nothing-to-undo (after d undo) calls (ap (λ k. k.latest) card);
    }
