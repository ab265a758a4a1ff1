-- In each round of the loop, the fields so far and the words that are left give the answer.
use Rattle.std.proofs.Common.{◌≡◌, ℕ, ◌-◌, Option, Some, None, List, cond}
use lib.IntN.{ℤ}
use lib.Seq.{sets}
use Rattle.card.specs.Fields.{field_count}
use Rattle.card_words.specs.Words.{are_fields, fields_in, fields_said}
use Rattle.card.specs.declared.Field.{Field}
use Rattle.card_words.proofs.fields_from.Given as goal

-- the answer, with fields so far and the words of k fields left from index i on
abbrev pub answer : List ℤ → List Field → ℕ → ℕ → Option (List Field)
answer ws fields i k = cond (are_fields ws i k) (Some (sets fields i (fields_in ws i k))) None

abbrev pub invariant-loop-i : goal.invariant-loop-i
invariant-loop-i l = answer l.words l.field-items l.i (field_count - l.i) ≡ fields_said l.words
