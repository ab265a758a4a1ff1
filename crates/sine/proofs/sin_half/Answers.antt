use mathlib.Core.Path.{◌≡◌, sym, ap, ◌∙◌}
use Prim.Native.Nat.{◌≤◌}
use native.Mathlib.Omega.{arith}
use borrow.Author.Tests.{le-leb}
use Rattle.exact.specs.Reduction.{Q}
use Rattle.sine.specs.Sine.{sin_quadrant}
use Rattle.sine.proofs.Quadrant.{sin-top}
use Rattle.sine.proofs.sin_half.Goals as goal

pub returns-else-a-gt-QUADRANT : goal.returns-else-a-gt-QUADRANT
returns-else-a-gt-QUADRANT c =
    let a = c.before.before.args.a in
    let top : a ≡ Q = omega arith in
    let first : a ≤ Q = omega arith in
    (simp (le-leb a Q first) (sym (ap sin_quadrant top ∙ sin-top)), omega arith)
