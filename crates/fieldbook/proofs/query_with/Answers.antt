-- The numbers are those of the fields.
use mathlib.Core.Path.{ap}
use Rattle.fieldbook.specs.Shot.{query}
use Rattle.fieldbook.specs.declared.Numbers.{Numbers}
use Rattle.fieldbook.proofs.query_with.Goals as goal

pub returns : goal.returns
returns c = ap (λ (x : Numbers). query x c.args.options) c.numbers_of.ensures
