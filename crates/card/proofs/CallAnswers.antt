-- What a call answers, by the first of its tests that fails.
use mathlib.Core.Path.{◌≡◌, refl, ap}
use mathlib.Core.Bool.{true, false}
use mathlib.Core.List.{List}
use Rattle.std.specs.Prelude.{Some, None}
use Prim.Native.Nat.{ℕ}
use lib.IntN.{ℤ}
use lib.ListN.{length}
use Rattle.exact.proofs.Choice.{was-true, was-false}
use Rattle.digits.specs.Text.{text}
use Rattle.digits.specs.Writing.{fits, write_at, buffer_with}
use Rattle.card.specs.Fields.{is_held, is_read, number_in, is_field, slot_index, field_of, put, keeping, Before}
use Rattle.card.specs.Calls.{accepted, refused, written_out, not_written, can_be_heard, hear_card, hear, confirm, undo, read_card, read, buffer_after}
use Rattle.card.specs.declared.Field.{Field}
use Rattle.card.specs.declared.Field.TheVariants.{Confirmed}
use Rattle.card.specs.declared.Card.{Card}
use Rattle.card.proofs.Clash.{clash}

module _ (c : Card) (f : ℤ) where
  module _ (z : ℤ) where
    pub hear-no-field : is_field f ≡ false → refused c 9 ≡ hear c f z
    hear-no-field e = rw e

    pub hear-too-large : is_field f ≡ true → can_be_heard z ≡ false → refused c 13 ≡ hear c f z
    hear-too-large e k = rw (e, k)

    pub hear-accepted : is_field f ≡ true → can_be_heard z ≡ true → accepted (hear_card c f z) ≡ hear c f z
    hear-accepted e k = rw (e, k)

  pub confirm-no-field : is_field f ≡ false → refused c 9 ≡ confirm c f
  confirm-no-field e = rw e

  pub confirm-not-read : is_field f ≡ true → is_read (field_of c f) ≡ false → refused c 12 ≡ confirm c f
  confirm-not-read e k = rw (e, k)

  pub confirm-accepted : is_field f ≡ true → is_read (field_of c f) ≡ true
      → accepted (put c (slot_index f) (Confirmed (number_in (field_of c f)))) ≡ confirm c f
  confirm-accepted e k = rw (e, k)

  module _ (buffer : List ℕ) (place : ℕ) where
    pub read-no-field : is_field f ≡ false → (not_written c 9 ≡ read c f buffer place) × (buffer ≡ buffer_after c f buffer place)
    read-no-field e = rw e (refl, refl)

    pub read-empty : is_field f ≡ true → is_held (field_of c f) ≡ false
        → (not_written c 10 ≡ read c f buffer place) × (buffer ≡ buffer_after c f buffer place)
    read-empty e k = rw (e, k) (refl, refl)

    module _ (e : is_field f ≡ true) (k : is_held (field_of c f) ≡ true) where
      abbrev number : ℤ
      number = number_in (field_of c f)

      pub read-no-room : (y : List ℕ) → None ≡ write_at buffer place number → y ≡ buffer_with buffer place number
          → (not_written c 11 ≡ read c f buffer place) × (y ≡ buffer_after c f buffer place)
      read-no-room y w b = let h = (was-false (fits buffer place number) _ None None (λ p. clash (cc)) w).0 in rw (e, k, h) (refl, rw h at b)

      pub read-written : (n : ℕ) (y : List ℕ) → Some n ≡ write_at buffer place number → y ≡ buffer_with buffer place number
          → (written_out n (read_card c f) ≡ read c f buffer place) × (y ≡ buffer_after c f buffer place)
      read-written n y w b =
          let h = was-true (fits buffer place number) _ None (Some n) (λ p. clash (cc)) w in
          let m : n ≡ length (text number) = cc h.1 in
          rw (e, k, h.0) (ap (λ n. written_out n (read_card c f)) m, rw h.0 at b)

  -- undoing, where the hearing for f is what is kept
  module _ (v : Field) (l : c.latest ≡ Before f v) where
    pub undo-no-field : is_field f ≡ false → refused c 18 ≡ undo c
    undo-no-field e = rw (l, e)

    pub undo-accepted : is_field f ≡ true → accepted (keeping (put c (slot_index f) v) None) ≡ undo c
    undo-accepted e = rw (l, e)

pub undo-nothing : (c : Card) → c.latest ≡ None → refused c 18 ≡ undo c
undo-nothing c l = rw l
