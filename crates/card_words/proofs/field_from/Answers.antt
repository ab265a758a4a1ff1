use Rattle.std.proofs.Common.{◌≡◌, refl, sym, ap, ◌∙◌, true, Some, ℤ, pos, nat_abs, arith, to_z-of_z, of_z}
use mir.Syntax.{w64}
use Rattle.exact.specs.Range.{between}
use Rattle.exact.proofs.Machine.{between-nat}
use Rattle.card.specs.Calls.{can_be_heard}
use Rattle.card.specs.declared.Field.TheVariants.{Confirmed}
use Rattle.card_words.specs.Words.{field_said}
use Rattle.card_words.proofs.field_from.Goals as goal

confirmed : (z : ℤ) → can_be_heard z ≡ true → Some (Confirmed z) ≡ field_said (pos 3) z
unfolding between
confirmed z h = rw h refl

-- a state that is neither 1 nor 2 is 3
pub returns-in_default : goal.returns-in_default
returns-in_default c =
    let z = c.args.number in
    let said = to_z-of_z c.ranges.number in
    let heard : can_be_heard z ≡ true = sym (c.between-else-not-between.ensures ∙ ap can_be_heard said) ∙ c.if-not-between-2.false in
    let state = to_z-of_z c.ranges.state in
    let r = between-nat 1 3 c.args.state (sym (c.between.ensures ∙ ap (λ s. between (pos 1) s (pos 3)) state) ∙ c.if-not-between.false) in
    let word : of_z w64 c.args.state ≡ nat_abs c.args.state = ap (of_z w64) r.0 in
    let three : nat_abs c.args.state ≡ 3 = omega arith in
    ap (λ z. Some (Confirmed z)) said ∙ confirmed z heard ∙ ap (λ s. field_said s z) (sym (r.0 ∙ ap pos three))
