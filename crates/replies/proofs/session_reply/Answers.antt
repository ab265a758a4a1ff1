use Rattle.lines.proofs.Appending.{append-both}
use Rattle.replies.specs.Answers.{reply, next}
use Rattle.replies.proofs.session_reply.Goals as goal

pub returns-clause-card_value : goal.returns-clause-card_value
unfolding next
returns-clause-card_value c = rw (← c.session_command.ensures) c.command_reply.ensures.card_value

pub returns-clause-appends : goal.returns-clause-appends
unfolding reply
returns-clause-appends c = rw (← c.session_command.ensures) (append-both c.command_reply.ensures.appends c.append.ensures)
