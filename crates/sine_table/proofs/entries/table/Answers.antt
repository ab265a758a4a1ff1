-- The stored numbers are the entries of the rule, one test that antt computes.
use mathlib.Core.Path.{refl}
use Rattle.exact.specs.Division.{nearest_div_ℕ}
use Rattle.sine_table.specs.SinePolynomial.{poly_num, poly_den, term, cofactor, arc, whole}
use Rattle.sine_table.specs.Table.{entry_by, entries_from, entries}
use Rattle.sine_table.proofs.entries.table.Goals as goal

pub returns : goal.returns
unfolding entries entries_from entry_by nearest_div_ℕ poly_num poly_den term cofactor arc whole
returns c = refl
