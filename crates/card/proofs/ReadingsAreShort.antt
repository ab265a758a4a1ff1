-- Readings are short. On every card that calls reach from a fresh one, a reading is at most 15 bytes long, so that with 15 bytes of room it is never
-- refused for want of room.
use mathlib.Core.Path.{◌≡◌, refl}
use mathlib.Core.Bool.{Bool, true, false}
use mathlib.Core.Logic.{◌≢◌}
use mathlib.Core.List.{List, [], ◌∷◌}
use Prim.Native.Nat.{ℕ, ◌+◌, ◌≤◌}
use native.Mathlib.Omega.{arith}
use lib.IntN.{ℤ}
use lib.ListN.{length}
use borrow.Author.Tests.{le-leb}
use Rattle.refusal.specs.Tests.{test, decided}
use Rattle.refusal.proofs.Decisions.{holds-decided}
use Rattle.digits.specs.Text.{text}
use Rattle.digits.specs.Writing.{fits}
use Rattle.digits.proofs.AtMostFifteen.{at-most-fifteen}
use Rattle.card.specs.Fields.{is_held, number_in, is_field, field_of, fresh_card}
use Rattle.card.specs.Calls.{ReadValues, not_written, read_tests, read}
use Rattle.card.specs.History.{Call, after_all, HeldSmall}
use Rattle.card.specs.declared.Card.{Card}
use Rattle.card.proofs.HeldNumbersAreSmall.{fresh-held-numbers-are-small}
use Rattle.card.proofs.Clash.{clash}

-- only the third test of a reading gives 11
not-eleven : (c : Card) (a b t : Bool) (v : ReadValues) → v.refusal ≡ 0 → t ≡ true
    → (decided (test a 9 ∷ test b 10 ∷ test t 11 ∷ []) v (not_written c)).refusal ≢ 11
not-eleven c false b t v e h q = omega arith
not-eleven c true false t v e h q = omega arith
not-eleven c true true false v e h q = clash (cc)
not-eleven c true true true v e h q = omega arith

-- ---- from any card whose numbers are small
module _ (c : Card) (small : HeldSmall c) (f : ℤ) (buffer : List ℕ) (place : ℕ) where
  text-short : length (text (number_in (field_of c f))) ≤ 15
  text-short = at-most-fifteen (number_in (field_of c f)) (small.0 f)

  pub reading-is-short : (read c f buffer place).length ≤ 15
  reading-is-short =
      let none : 0 ≤ 15 = omega arith in
      holds-decided (λ (v : ReadValues). v.length ≤ 15) (read_tests c f buffer place) _ (not_written c) text-short (none, (none, (none, tt)))

  module _ (room : place + 15 ≤ length buffer) where
    pub has_room : fits buffer place (number_in (field_of c f)) ≡ true
    has_room = let l = text-short in le-leb (place + length (text (number_in (field_of c f)))) (length buffer) (omega arith)

    pub never-no-room : (read c f buffer place).refusal ≢ 11
    never-no-room = not-eleven c (is_field f) (is_held (field_of c f)) _ _ refl has_room

-- ---- from a fresh card
module _ (calls : List Call) (f : ℤ) (buffer : List ℕ) (place : ℕ) where
  pub fresh-reading-is-short : (read (after_all fresh_card calls) f buffer place).length ≤ 15
  fresh-reading-is-short = reading-is-short (after_all fresh_card calls) (fresh-held-numbers-are-small calls) f buffer place

  pub fresh-never-no-room : place + 15 ≤ length buffer → (read (after_all fresh_card calls) f buffer place).refusal ≢ 11
  fresh-never-no-room = never-no-room (after_all fresh_card calls) (fresh-held-numbers-are-small calls) f buffer place
