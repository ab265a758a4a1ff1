-- The loop's invariant: the guess is at the root or above, and q is x divided by it. The guess falls until q is no
-- longer below it.
use mathlib.Core.Path.{refl, sym}
use Prim.Native.Nat.{◌/◌, ◌≤◌}
use native.Mathlib.Omega.{arith}
use Rattle.exact.proofs.Largest.{root_is}
use Rattle.exact.proofs.Newton.{step-above, square_le, guess-pos}
use Rattle.exact.proofs.root.Goals as goal

pub returns-then-x-eq0 : goal.returns-then-x-eq0
returns-then-x-eq0 c = rw c.if-x-eq0.true (sym (root_is 0 0 (omega arith) (omega arith)), omega arith)

pub loop-q-init : goal.loop-q-init
loop-q-init c =
    let x = c.before.args.x in
    (refl, step-above x 1_073_741_824 (omega arith), omega arith)

pub loop-q-preserved : goal.loop-q-preserved
loop-q-preserved c =
    let x = c.before.before.before.args.x in
    let v = c.before.loop-q.invariant in
    (refl, rw v.0 (step-above x c.before.loop-q.h (guess-pos _ _ c.before.before.if-x-eq0.false v.1)), omega arith)

pub returns : goal.returns
returns c =
    let x = c.before.before.before.args.x in
    let h = c.before.loop-q.h in
    let v = c.before.loop-q.invariant in
    let k : h ≤ x / h = rw v.0 at c.loop-q-test.false in
    let s = square_le x h (guess-pos x h c.before.before.if-x-eq0.false v.1) k in
    (sym (root_is x h s v.1), s)
