-- In each round the sum so far and the rows that are left give the whole, at every q.
use lib.IntN.{ℤ}
use Rattle.series.specs.Rows.{index, steady_term}
use Rattle.series.proofs.Loops.{RowsLeft}
use Rattle.series.proofs.Group.sum.Given as goal

abbrev pub invariant-loop-row : goal.invariant-loop-row
invariant-loop-row l =
    (q : ℤ) → RowsLeft l.arguments q (steady_term (index l.fn.self 0) (index l.fn.self 1) (index l.fn.self 2)) l.fn.self.rows.now l.row-index l.sum
