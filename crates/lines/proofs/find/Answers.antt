use Rattle.lines.proofs.Found.{found}
use Rattle.lines.proofs.find.Goals as goal

pub returns : goal.returns
returns c = found c.args.b c.args.s.now c.memchr.result c.memchr.ensures c.unwrap_or.result c.unwrap_or.ensures
