use Rattle.lines.proofs.Appending.{append-both}
use Rattle.replies.specs.Answers.{batch_reply}
use Rattle.replies.proofs.batch_reply.Goals as goal

pub returns-clause-appends : goal.returns-clause-appends
unfolding batch_reply
returns-clause-appends c = rw (← c.numbers_of.ensures.numbers, ← c.as_slice.ensures) (append-both c.append_batch.ensures.appends c.append.ensures)
