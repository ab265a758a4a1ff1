-- Field numbers, and where their fields stand on the card.
use mathlib.Core.Path.{◌≡◌, sym, ap, subst, ◌∙◌}
use mathlib.Core.Bool.{Bool, true, false}
use Prim.Native.Nat.{suc, ◌<◌}
use native.Mathlib.Omega.{arith}
use lib.Dec.{T}
use lib.IntN.{ℤ, pos, nat_abs}
use lib.Signed.{non_neg}
use mir.Syntax.{w64}
use mir.Facts.{to_z-of_z}
use mir.Val.{Fits, SFits, to_z, of_z}
use Rattle.exact.proofs.Machine.{between-nat, abs_word}
use Rattle.card.specs.Fields.{field_count, is_field, slot_index, field_at, field_of}
use Rattle.card.specs.declared.Field.TheVariants.{Empty}
use Rattle.card.specs.declared.Card.{Card}

-- a field number says its index, which is one of the card's
module _ (f : ℤ) (e : is_field f ≡ true) where
  pub field-number : f ≡ pos (suc (slot_index f))
  field-number = let r = between-nat 1 field_count f e in r.0 ∙ ap pos (omega arith)

  pub index_below : slot_index f < field_count
  index_below = let r = between-nat 1 field_count f e in omega arith

  -- and can be counted with
  pub field-word : SFits w64 f → T (non_neg f) × Fits w64 (nat_abs f)
  field-word fits = (subst (λ z. T (non_neg z)) (sym field-number) tt, abs_word f fits)

  pub field_found : (c : Card) → field_at c (slot_index f) ≡ field_of c f
  unfolding field_of
  field_found c = rw e

pub no_field : (f : ℤ) → is_field f ≡ false → (c : Card) → Empty ≡ field_of c f
unfolding field_of
no_field f e c = rw e

-- what a call of `is_field` gave, which takes a field number by its bits
pub tested : {f : ℤ} → SFits w64 f → {b : Bool} → b ≡ is_field (to_z w64 (of_z w64 f)) → is_field f ≡ b
tested fits e = sym (e ∙ ap is_field (to_z-of_z fits))
