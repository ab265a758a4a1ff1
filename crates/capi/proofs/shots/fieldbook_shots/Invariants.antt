-- After i rounds the first i rows are answered, and behind their words the list is as it was.
use Rattle.std.proofs.Common.{◌≡◌, ◌++◌, ◌*◌, drop}
use Rattle.capi.specs.Rows.{word_count, row_count, answers_to}
use Rattle.capi.proofs.shots.fieldbook_shots.Given as goal

abbrev pub invariant-loop-i : goal.invariant-loop-i
invariant-loop-i l = (l.count ≡ row_count l.rows l.initial.answers) × (l.answers ≡ answers_to l.options l.i l.rows ++ drop (word_count * l.i) l.initial.answers)
