use mathlib.Core.Path.{◌≡◌, sym, subst, ◌∙◌}
use Prim.Native.Nat.{ℕ, ◌-◌, ◌/◌}
use native.Mathlib.Omega.{arith}
use Rattle.exact.specs.Largest.{Among}
use Rattle.exact.proofs.Largest.{among-above, among_below, among-some, among_one}
use Rattle.sine_table.specs.Table.{step_count}
use Rattle.vector_angle.specs.VectorAngle.{start_passes, last_step}
use Rattle.vector_angle.proofs.Passing.{start-zero, end-fails, starts-fail}
use Rattle.vector_angle.proofs.Vector.last_step.Goals.{then-start_passes, else-start_passes}
use Rattle.vector_angle.proofs.Vector.last_step.Goals as goal

pub loop-left-init : goal.loop-left-init
loop-left-init c =
    let v = c.args.self in
    record { among = record { within = omega arith; yes = start-zero v.x v.y; no = end-fails v.x v.y c.requires }; all = omega arith }

pub loop-left-preserved : goal.loop-left-preserved
loop-left-preserved c =
    let l = c.loop-left in
    let v = c.args.self in
    let p = start_passes v.x v.y in
    let among = l.invariant.among in
    let tried = sym c.start_passes.ensures in
    elim c.if-start_passes.branch [
      | then-start_passes w ↦
          rw (w.n-is, w.rest-is)
          (record { among = among-above p l.n l.left step_count (l.left / 2) among (omega arith) (tried ∙ w.if-start_passes.true); all = omega (arith, among.within, l.invariant.all) })
      | else-start_passes w ↦
          rw (w.n-is, w.rest-is)
          (record {
            among = among_below p l.n l.left step_count (l.left / 2) (l.left - l.left / 2) (starts-fail v.x v.y) among (omega arith) (omega arith) (tried ∙ w.if-start_passes.false);
            all = l.invariant.all;
          })
    ]

pub returns : goal.returns
unfolding last_step
returns c =
    let l = c.loop-left in
    let v = c.args.self in
    let p = start_passes v.x v.y in
    let among = l.invariant.among in
    let one : l.left ≡ 1 = omega (arith, among-some p l.n l.left step_count among) in
    let found = subst (λ (k : ℕ). Among p l.n k step_count) one among in
    (sym (among_one p l.n step_count (starts-fail v.x v.y) found), found)
