-- The measure is the number of bytes that are left.
use Rattle.std.proofs.Common.{length}
use Rattle.vectors.proofs.answer_all.Given as goal

abbrev pub decreases-loop-rest : goal.decreases-loop-rest
decreases-loop-rest l = length l.rest
