-- By where the lines cross: what comes of the large products is small, as both lines are nearly level over a step.
use Prim.Native.Nat.{ℕ, ◌+◌, ◌-◌, ◌*◌, ◌≤◌, ◌^◌}
use native.Mathlib.Omega.{arith}
use Rattle.exact.specs.Largest.{Among}
use Rattle.sine_table.specs.Table.{step_count}
use Rattle.vector_angle.specs.VectorAngle.{start_passes}
use Rattle.vector_angle.specs.declared.Step.{Step}
use Rattle.vector_angle.specs.declared.Vector.{Vector}
use Rattle.vector_angle.proofs.Crossing.{starts, gap-le, slope-some, slope-most, at-start, at-share}
use Rattle.vector_angle.proofs.Vector.window.Goals as goal

module _ (v : Vector) (s : Step) (a : Among (start_passes v.x v.y) s.n 1 step_count) where
  abbrev gap : ℕ
  gap = v.y * s.cosine - v.x * s.sine

  abbrev slope : ℕ
  slope = v.x * s.rise + v.y * s.fall

  slope-small : slope ≤ 2 ^ 56
  slope-small = omega (arith, v.x_bounded, v.y_bounded, slope-most v.x v.y s.n _ _ _ _ s.is_step a)

  gap-small : gap ≤ slope
  gap-small = gap-le v.x v.y s.n _ _ _ _ s.is_step a

pub overflow_sub-gap : goal.overflow_sub-gap
overflow_sub-gap c = let v = c.args.self in let s = c.args.s in starts v.x v.y s.n _ _ _ _ s.is_step c.requires

pub overflow_add-slope : goal.overflow_add-slope
overflow_add-slope c = omega (arith, slope-small c.args.self c.args.s c.requires)

pub overflow_mul-gap-3 : goal.overflow_mul-gap-3
overflow_mul-gap-3 c = omega (arith, gap-small c.args.self c.args.s c.requires, slope-small c.args.self c.args.s c.requires)

pub returns-then-gap-open : goal.returns-then-gap-open
returns-then-gap-open c =
    let v = c.args.self in
    let s = c.args.s in
    at-start v.x v.y s.n _ _ _ _ s.is_step c.requires c.if-gap-open.true

pub overflow_mul-gap-4 : goal.overflow_mul-gap-4
overflow_mul-gap-4 c = omega (arith, gap-small c.args.self c.args.s c.requires, slope-small c.args.self c.args.s c.requires)

pub share-requires : goal.share-requires
share-requires c =
    let v = c.args.self in
    let s = c.args.s in
    (slope-some v.x v.y s.n _ _ _ _ s.is_step c.requires, omega (arith, gap-small v s c.requires), slope-small v s c.requires)

pub returns : goal.returns
returns c =
    let v = c.args.self in
    let s = c.args.s in
    rw c.min.ensures (at-share v.x v.y s.n _ _ _ _ s.is_step c.requires c.share.result c.if-gap-open.false c.share.ensures.0 c.share.ensures.1)
