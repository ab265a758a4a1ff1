-- In each round the sum so far and the groups that are left give the whole, at every q.
use lib.IntN.{ℤ}
use lib.ListN.{drop}
use Rattle.series.specs.Rows.{steady_terms}
use Rattle.series.proofs.Loops.{Left}
use Rattle.series.proofs.Series.steady_sum.Given as goal

abbrev pub invariant-loop-group : goal.invariant-loop-group
invariant-loop-group l = (q : ℤ) → Left l.arguments q (steady_terms l.fn.self.groups.now) (steady_terms (drop l.group-index l.fn.self.groups.now)) l.sum
