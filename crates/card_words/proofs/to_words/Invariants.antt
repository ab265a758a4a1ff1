-- In each round of the loop the words of the fields so far stand in front.
use Rattle.std.proofs.Common.{◌≡◌}
use Rattle.card_words.proofs.CardWords.{written}
use Rattle.card_words.proofs.to_words.Given as goal

abbrev pub invariant-loop-i : goal.invariant-loop-i
invariant-loop-i l = l.words ≡ written l.card l.initial.words l.i
