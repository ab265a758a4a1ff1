use native.Mathlib.Omega.{arith}
use Rattle.calendar.proofs.Count.{year-days}
use Rattle.calendar.proofs.year_days.Goals as goal

pub returns : goal.returns
returns c = (year-days c.args.count c.requires.1, omega arith)
