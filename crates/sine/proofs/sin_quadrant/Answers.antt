use mathlib.Core.Path.{◌∙◌}
use Prim.Native.Nat.{◌+◌, ◌/◌, ◌%◌}
use native.Mathlib.Omega.{arith}
use borrow.Author.Tests.{lt-ltb}
use Rattle.sine_table.specs.Step.{step}
use Rattle.sine.specs.Sine.{interpolated, sin_quadrant}
use Rattle.sine_table.proofs.TableRule.{entry-climbs}
use Rattle.sine.proofs.sin_quadrant.Goals as goal

pub interpolated-requires : goal.interpolated-requires
interpolated-requires c =
    let a = c.before.before.args.a in
    let climbs = entry-climbs (a / step) (a / step + 1) (omega arith) (omega arith) in
    (rw (c.before.entry_at.ensures.0, c.entry_at-2.ensures.0) climbs, c.entry_at-2.ensures.1, omega arith)

pub returns : goal.returns
unfolding sin_quadrant
returns c =
    let s = c.before.before.before in
    let low = c.before.before.entry_at.ensures.0 in
    let high = c.before.entry_at-2.ensures.0 in
    (c.interpolated.ensures.0 ∙ (λ i. interpolated (low i) (high i) (s.args.a % step)) ∙ simp (lt-ltb _ _ s.requires), c.interpolated.ensures.1)
