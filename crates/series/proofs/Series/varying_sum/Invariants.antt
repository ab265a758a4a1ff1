-- In each round the sum so far and the rows that are left give the whole.
use Rattle.series.specs.Rows.{varying_term}
use Rattle.series.proofs.Loops.{RowsLeft}
use Rattle.series.proofs.Series.varying_sum.Given as goal

abbrev pub invariant-loop-row : goal.invariant-loop-row
invariant-loop-row l = RowsLeft l.arguments l.q varying_term l.fn.self.varying.now l.row-index l.sum
