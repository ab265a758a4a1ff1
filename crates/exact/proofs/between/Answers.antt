-- The two tests are the definition's.
use mir.Facts.{to_z-of_z}
use Rattle.exact.specs.Range.{between}
use Rattle.exact.proofs.between.Goals as goal

pub returns-then-low-x : goal.returns-then-low-x
unfolding between
returns-then-low-x c =
    let f = c.before.ranges in
    let e = simp (to_z-of_z, f.low, f.x) at c.if-low-x.true in
    simp (to_z-of_z, f.x, f.high, e)

pub returns-else-low-x : goal.returns-else-low-x
unfolding between
returns-else-low-x c =
    let f = c.before.ranges in
    let e = simp (to_z-of_z, f.low, f.x) at c.if-low-x.false in
    simp (to_z-of_z, f.low, f.x, e)
