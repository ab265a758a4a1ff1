-- The invariant: the step sought is among the `left` ones from n on, and from n on the table has `rest` steps. The measure is `left`.
use mathlib.Core.Path.{◌≡◌}
use Prim.Native.Nat.{◌+◌}
use Rattle.exact.specs.Largest.{Among}
use Rattle.sine_table.specs.Table.{step_count}
use Rattle.vector_angle.specs.VectorAngle.{start_passes}
use Rattle.vector_angle.proofs.Vector.last_step.Given as goal

abbrev pub invariant-loop-left : goal.invariant-loop-left
invariant-loop-left l = record { among : Among (start_passes l.self.x l.self.y) l.n l.left step_count; all : l.n + l.rest ≡ step_count }

abbrev pub decreases-loop-left : goal.decreases-loop-left
decreases-loop-left l = l.left
