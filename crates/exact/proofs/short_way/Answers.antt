use borrow.Author.Rules.{rules}
use Rattle.exact.specs.Reduction.{short_way}
use Rattle.exact.proofs.short_way.Goals as goal

pub returns-then-round-apart : goal.returns-then-round-apart
unfolding short_way
returns-then-round-apart c = search rules

pub returns-else-round-apart : goal.returns-else-round-apart
unfolding short_way
returns-else-round-apart c = search rules
