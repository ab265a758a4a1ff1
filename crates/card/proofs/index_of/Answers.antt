use Rattle.std.proofs.Common.{◌≡◌, true, ◌∙◌, arith, to_z-of_z}
use Rattle.exact.proofs.Machine.{between-nat}
use Rattle.card.specs.Fields.{field_count, is_field}
use Rattle.card.proofs.FieldNumbers.{field-word, index_below, tested}
use Rattle.card.proofs.index_of.Goals as goal

pub overflow_cast-result : goal.overflow_cast-result
overflow_cast-result c =
    let there : is_field c.args.field ≡ true = tested c.ranges.field c.is_field.ensures ∙ c.if-not-is_field.false in
    simp (to_z-of_z c.ranges.field) (field-word c.args.field there c.ranges.field)

pub overflow_sub-result : goal.overflow_sub-result
overflow_sub-result c =
    let there : is_field c.args.field ≡ true = tested c.ranges.field c.is_field.ensures ∙ c.if-not-is_field.false in
    let r = between-nat 1 field_count c.args.field there in
    simp (to_z-of_z c.ranges.field) (omega arith)

pub returns-clause-within : goal.returns-clause-within
returns-clause-within c =
    let there : is_field c.args.field ≡ true = tested c.ranges.field c.is_field.ensures ∙ c.if-not-is_field.false in
    simp (to_z-of_z c.ranges.field) (index_below c.args.field there)
