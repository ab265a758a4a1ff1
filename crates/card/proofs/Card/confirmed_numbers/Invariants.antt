-- In each round of the loop, what is gathered and the fields that are left give the answer.
use mathlib.Core.Path.{◌≡◌}
use mathlib.Core.Bool.{cond}
use mathlib.Core.List.{List, map}
use Prim.Native.Nat.{ℕ, ◌-◌}
use lib.IntN.{ℤ}
use lib.Seq.{sets}
use Rattle.card.specs.Fields.{number_in, field_count}
use Rattle.card.specs.Confirmed.{fields_from, every_confirmed, ConfirmedValues, given, withheld, confirmed_numbers}
use Rattle.card.specs.declared.Field.{Field}
use Rattle.card.specs.declared.Card.{Card}
use Rattle.card.proofs.Card.confirmed_numbers.Given as goal

-- the answer, with numbers gathered before index i and fields left from it on
abbrev pub answer : List ℤ → ℕ → List Field → ConfirmedValues
answer numbers i fields = cond (every_confirmed fields) (given (sets numbers i (map number_in fields))) (withheld 1)

abbrev pub left : Card → ℕ → List Field
left c i = fields_from c i (field_count - i)

abbrev pub invariant-loop-i : goal.invariant-loop-i
invariant-loop-i l = answer l.numbers l.i (left l.self l.i) ≡ confirmed_numbers l.self
