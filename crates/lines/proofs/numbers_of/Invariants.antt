-- The row's numbers with those of what is left of the line are the line's.
use Rattle.std.proofs.Common.{◌≡◌, length}
use Rattle.lines.specs.Numerals.{words, row_length, numbers_behind, numbers_of, listed}
use Rattle.lines.proofs.numbers_of.Given as goal

abbrev pub invariant-loop-n : goal.invariant-loop-n
invariant-loop-n l = record {
  full : length l.row.numbers ≡ row_length;
  rest : numbers_behind (listed l.row) l.most (words l.rest) ≡ numbers_of l.most l.s;
}

abbrev pub decreases-loop-n : goal.decreases-loop-n
decreases-loop-n l = length l.rest
