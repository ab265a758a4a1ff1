use Rattle.std.proofs.Common.{◌++◌}
use Rattle.stream.specs.Feeding.{held}
use Rattle.stream.proofs.Keeping.{reply-kept, next-kept}
use Rattle.stream.proofs.State.end_line.Goals as goal

pub returns-else-is_empty-clause-card_value : goal.returns-else-is_empty-clause-card_value
returns-else-is_empty-clause-card_value c =
    rw (c.as_slice-else-is_empty.ensures, c.keep.ensures, next-kept c.args.protocol c.args.self.now.card (held c.args.self.now.kept ++ c.args.piece.now)) at c.reply-else-is_empty.ensures.card_value

pub returns-else-is_empty-clause-appends : goal.returns-else-is_empty-clause-appends
returns-else-is_empty-clause-appends c =
    rw (c.as_slice-else-is_empty.ensures, c.keep.ensures, reply-kept c.args.protocol c.args.self.now.card (held c.args.self.now.kept ++ c.args.piece.now)) at c.reply-else-is_empty.ensures.appends
