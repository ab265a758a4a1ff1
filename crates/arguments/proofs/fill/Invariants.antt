-- As many angles as rows, those of the rows so far.
use Rattle.std.proofs.Common.{◌≡◌, map, length, take}
use Rattle.arguments.specs.Argument.{arguments_by}
use Rattle.arguments.specs.Rows.{coefficients}
use Rattle.arguments.proofs.fill.Given as goal

abbrev pub invariant-loop-i : goal.invariant-loop-i
invariant-loop-i l = record {
  all : length l.angles ≡ length l.rows;
  written : take l.i l.angles ≡ arguments_by (map coefficients (take l.i l.rows)) l.e;
}
