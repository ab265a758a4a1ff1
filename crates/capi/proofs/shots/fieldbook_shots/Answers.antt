-- After i rounds the first i rows are answered, and behind their words the list is as it was.
use mathlib.Core.Path.{refl}
use Prim.Native.Nat.{suc, ◌*◌, ◌≤◌}
use native.Mathlib.Omega.{arith}
use lib.ListN.{length}
use Rattle.capi.specs.Rows.{word_count, answers_to}
use Rattle.capi.proofs.ManyShots as many
use Rattle.capi.proofs.shots.fieldbook_shots.Goals as goal

pub loop-i-init : goal.loop-i-init
unfolding answers_to
loop-i-init c = (c.row_count-count.ensures, refl)

pub loop-i-preserved : goal.loop-i-preserved
loop-i-preserved c =
    let l = c.loop-i in
    let inside : word_count * suc l.i ≤ length c.args.answers.now = omega (arith, l.invariant.0, l.auto.i-end, (many.within c.args.rows.now c.args.answers.now).1) in
    (l.invariant.0, many.one_more c.args.options c.args.rows.now c.args.answers.now l.i l.answers _ inside l.invariant.1 c.answer_row.ensures)
