use Rattle.std.proofs.Common.{rules}
use Rattle.card.specs.Calls as Calls
use Rattle.lent_card.proofs.ByCard.{called}
use Rattle.lent_card.proofs.hear.Goals as goal

pub returns : goal.returns
returns c = called _ (λ d. Calls.hear d c.args.field c.args.number) _ c.on_words.ensures (λ d r e h. search rules)
