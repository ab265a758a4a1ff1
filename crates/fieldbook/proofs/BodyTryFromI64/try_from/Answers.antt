-- No body has another number.
use mathlib.Core.Path.{◌≡◌, refl, ap, ◌∙◌}
use mathlib.Core.Bool.{Bool, true, false}
use native.Mathlib.Omega.{arith}
use lib.IntN.{ℤ, pos, nat_abs}
use Rattle.exact.proofs.Machine.{between-nat}
use Rattle.fieldbook.specs.Shot.{is_body}
use Rattle.fieldbook.proofs.BodyTryFromI64.try_from.Goals as goal

no-body : (z : ℤ) → (z ≡ pos 1 → ⊥) → (z ≡ pos 2 → ⊥) → is_body z ≡ false
no-body z m n = go (is_body z) refl
  where
    go : (t : Bool) → is_body z ≡ t → t ≡ false
    go false e = refl
    go true e =
        let r = between-nat 1 2 z e in
        let one : nat_abs z ≡ 1 → ⊥ = λ k. m (r.0 ∙ ap pos k) in
        let two : nat_abs z ≡ 2 → ⊥ = λ k. n (r.0 ∙ ap pos k) in absurd (omega arith)

pub returns-in_default : goal.returns-in_default
returns-in_default c = (refl, no-body c.args.number (λ e. grind arith) (λ e. grind arith))
