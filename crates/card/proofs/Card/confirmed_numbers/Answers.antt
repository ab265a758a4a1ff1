use mathlib.Core.Path.{◌≡◌, refl, sym, ap, ◌∙◌}
use mathlib.Core.Bool.{false}
use mathlib.Core.List.{List, ◌∷◌}
use Prim.Native.Nat.{ℕ, suc, ◌+◌, ◌-◌, ◌<◌, ◌≤◌}
use native.Mathlib.Numerals.{add-one}
use native.Mathlib.Omega.{arith}
use lib.IntN.{ℤ, pos}
use lib.ListN.{set, replicate}
use mir.Syntax.{w64}
use mir.Facts.{to_z-of_z}
use mir.Val.{SFits}
use borrow.Author.Rules.{rules}
use Rattle.card.specs.Fields.{is_confirmed, field_count, field_at}
use Rattle.card.specs.Confirmed.{fields_from, every_confirmed, given, withheld, confirmed_numbers}
use Rattle.card.specs.declared.Field.TheVariants.{Confirmed}
use Rattle.card.specs.declared.Card.{Card}
use Rattle.card.proofs.States.{not-confirmed}
use Rattle.card.proofs.Card.confirmed_numbers.Invariants.{answer, left}
use Rattle.card.proofs.Card.confirmed_numbers.Goals as goal

module _ (c : Card) where
  none-gathered : answer (replicate field_count (pos 0)) 0 (left c 0) ≡ confirmed_numbers c
  unfolding fields_from
  none-gathered = refl

  module _ (numbers : List ℤ) (i : ℕ) where
    all-gathered : field_count ≤ i → given numbers ≡ answer numbers i (left c i)
    unfolding fields_from every_confirmed
    all-gathered h = let e : field_count - i ≡ 0 = omega arith in rw e

    module _ (h : i < field_count) where
      next-left : left c i ≡ field_at c i ∷ left c (i + 1)
      unfolding fields_from
      next-left = let e : field_count - i ≡ suc (field_count - (i + 1)) = omega arith in rw (e, add-one)

      next-confirmed : {z : ℤ} → field_at c i ≡ Confirmed z → answer (set numbers i z) (i + 1) (left c (i + 1)) ≡ answer numbers i (left c i)
      unfolding every_confirmed
      next-confirmed e = rw (next-left, e, add-one)

      next-not-confirmed : is_confirmed (field_at c i) ≡ false → withheld 1 ≡ answer numbers i (left c i)
      unfolding every_confirmed
      next-not-confirmed e = rw (next-left, e)

pub loop-i-init : goal.loop-i-init
loop-i-init c = none-gathered c.args.self.now

pub returns-in_default : goal.returns-in_default
returns-in_default c =
    let l = c.loop-i in
    next-not-confirmed _ l.numbers l.i (omega arith) (not-confirmed _ c.in_default.not-Confirmed) ∙ l.invariant

pub loop-i-preserved : goal.loop-i-preserved
loop-i-preserved c =
    let l = c.loop-i in
    let fits : SFits w64 c.in-Confirmed.number = search rules in
    next-confirmed _ l.numbers l.i (omega arith) (c.in-Confirmed.is ∙ ap Confirmed (sym (to_z-of_z fits))) ∙ l.invariant

pub returns : goal.returns
returns c = let l = c.loop-i in all-gathered _ l.numbers l.i (omega arith) ∙ l.invariant
