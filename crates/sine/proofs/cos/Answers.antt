use mathlib.Core.Path.{sym, ◌∙◌}
use native.Mathlib.Omega.{arith}
use mir.Facts.{to_z-of_z}
use Rattle.exact.proofs.Machine.{ok-fits}
use Rattle.sine.proofs.Extension.{cos-low, cos-high}
use Rattle.sine.proofs.cos.Goals as goal

pub returns-then-a : goal.returns-then-a
returns-then-a c =
    simp (to_z-of_z, ok-fits c.sin.result c.sin.type_inv)
    (c.sin.ensures.value ∙ sym (cos-low c.before.before.args.a c.before.if-a.true), c.sin.ensures.range)

pub returns-else-a : goal.returns-else-a
returns-else-a c =
    simp (to_z-of_z, ok-fits c.sin-else-a.result c.sin-else-a.type_inv)
    (c.sin-else-a.ensures.value ∙ sym (cos-high c.before.before.args.a c.before.if-a.false (omega arith)), c.sin-else-a.ensures.range)
