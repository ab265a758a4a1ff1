-- From the largest and the smallest so far, what is left of the list leads to those of the whole list.
use Rattle.std.proofs.Common.{◌≡◌, drop}
use Rattle.spread.specs.Spread.{larger, smaller, along, largest, smallest}
use Rattle.spread.proofs.spread_of.Given as goal

abbrev pub invariant-loop-a : goal.invariant-loop-a
invariant-loop-a l = record {
  most : along larger l.most (drop l.a-index l.a-items) ≡ largest l.results;
  least : along smaller l.least (drop l.a-index l.a-items) ≡ smallest l.results;
}
