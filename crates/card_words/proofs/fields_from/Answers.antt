use mathlib.Core.Path.{◌≡◌, refl, sym, ap, ap₂, ◌∙◌}
use mathlib.Core.Bool.{true, false}
use mathlib.Core.List.{List}
use Rattle.std.specs.Prelude.{Some, None}
use Rattle.std.proofs.lemmas.Option.{same_Some}
use Prim.Native.Nat.{ℕ, suc, ◌+◌, ◌-◌, ◌*◌, ◌<◌, ◌≤◌}
use native.Mathlib.Numerals.{add-one}
use native.Mathlib.Omega.{arith}
use lib.IntN.{ℤ}
use lib.ListN.{set}
use mir.Syntax.{w64}
use mir.Facts.{to_z-of_z}
use mir.Val.{SFits, to_z, of_z}
use borrow.Author.Rules.{rules}
use Rattle.exact.specs.Nth.{nth}
use Rattle.exact.proofs.Choice.{was-true, was-false}
use Rattle.card.specs.Fields.{field_count}
use Rattle.card.specs.declared.Field.{Field}
use Rattle.card.proofs.Clash.{clash}
use Rattle.card_words.specs.Words.{is_field_words, field_from, field_said, are_fields, fields_in}
use Rattle.card_words.proofs.fields_from.Invariants.{answer}
use Rattle.card_words.proofs.fields_from.Goals as goal

module _ (ws : List ℤ) (fields : List Field) (i : ℕ) where
  all_read : field_count ≤ i → Some fields ≡ answer ws fields i (field_count - i)
  unfolding are_fields fields_in
  all_read h = let e : field_count - i ≡ 0 = omega arith in rw e

  module _ (h : i < field_count) where
    one_more : field_count - i ≡ suc (field_count - (i + 1))
    one_more = omega arith

    next_field : is_field_words (nth ws (2 * i)) (nth ws (2 * i + 1)) ≡ true
        → answer ws (set fields i (field_from (nth ws (2 * i)) (nth ws (2 * i + 1)))) (i + 1) (field_count - (i + 1)) ≡ answer ws fields i (field_count - i)
    unfolding are_fields fields_in
    next_field e = rw (one_more, e, add-one i)

    next-none : is_field_words (nth ws (2 * i)) (nth ws (2 * i + 1)) ≡ false → None ≡ answer ws fields i (field_count - i)
    unfolding are_fields
    next-none e = rw (one_more, e)

-- what the call on two words gave, which takes them by their bits
module _ {s z : ℤ} (f : SFits w64 s) (g : SFits w64 z) where
  read : {v : Field} → Some v ≡ field_said (to_z w64 (of_z w64 s)) (to_z w64 (of_z w64 z)) → (is_field_words s z ≡ true) × (v ≡ field_from s z)
  read {v} e =
      let t = was-true (is_field_words s z) _ None (Some v) (λ p. clash (cc)) (e ∙ ap₂ field_said (to_z-of_z f) (to_z-of_z g)) in
      (t.0, same_Some _ _ t.1)

  unread : None ≡ field_said (to_z w64 (of_z w64 s)) (to_z w64 (of_z w64 z)) → is_field_words s z ≡ false
  unread e = (was-false (is_field_words s z) _ None None (λ p. clash (cc)) (e ∙ ap₂ field_said (to_z-of_z f) (to_z-of_z g))).0

pub loop-i-init : goal.loop-i-init
unfolding fields_in
loop-i-init c = refl

pub returns-in_err-field : goal.returns-in_err-field
returns-in_err-field c =
    let l = c.loop-i in
    let ws = c.args.words.now in
    let f : SFits w64 (nth ws (2 * l.i)) = search rules in
    let g : SFits w64 (nth ws (2 * l.i + 1)) = search rules in
    c.from_residual.ensures
    ∙ next-none ws l.field-items l.i (omega arith) (unread f g (sym c.in_err-field.was ∙ c.field_from.ensures))
    ∙ l.invariant

pub loop-i-preserved : goal.loop-i-preserved
loop-i-preserved c =
    let l = c.loop-i in
    let ws = c.args.words.now in
    let f : SFits w64 (nth ws (2 * l.i)) = search rules in
    let g : SFits w64 (nth ws (2 * l.i + 1)) = search rules in
    let r = read f g (sym c.in_ok-field.was ∙ c.field_from.ensures) in
    ap (λ v. answer ws (set l.field-items l.i v) (l.i + 1) (field_count - (l.i + 1))) r.1
    ∙ next_field ws l.field-items l.i (omega arith) r.0
    ∙ l.invariant

pub returns : goal.returns
returns c = let l = c.loop-i in all_read c.args.words.now l.field-items l.i (omega arith) ∙ l.invariant
