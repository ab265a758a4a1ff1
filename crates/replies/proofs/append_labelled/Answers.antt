use Rattle.std.proofs.Common.{arith}
use Rattle.lines.proofs.Appending.{at-most-twenty}
use Rattle.replies.proofs.append_labelled.Goals as goal

pub append_decimal-requires : goal.append_decimal-requires
append_decimal-requires c =
    let d = at-most-twenty c.args.n c.ranges.n.fits in
    omega (arith, c.requires, c.append.ensures.ends, c.append.ensures.room)

pub returns-clause-upper_bound : goal.returns-clause-upper_bound
returns-clause-upper_bound c =
    let d = at-most-twenty c.args.n c.ranges.n.fits in
    omega (arith, c.append.ensures.ends, c.append_decimal.ensures.ends)
