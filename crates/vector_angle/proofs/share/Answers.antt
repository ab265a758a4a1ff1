-- A quotient of large numbers by grains: each grain that is lost costs a little of a unit.
use Prim.Native.Nat.{ℕ, ◌+◌, ◌*◌, ◌/◌, ◌≤◌, ◌<◌}
use native.Mathlib.Nat.{mul-le-mul_left, mul-le-mul_right, mul-div-le, lt-mul-div-succ, le_of_mul-le-mul_right}
use native.Mathlib.Omega.{arith}
use Rattle.sine_table.specs.Step.{step}
use Rattle.vector_angle.proofs.share.Goals as goal

abbrev half : ℕ
half = step / 2

module _ (part whole p v k r : ℕ) (p-low : k * p ≤ part) (p-high : part < k * p + k) (v_low : k * v ≤ whole) (v_high : whole < k * v + k)
    (low : (v + 1) * r ≤ p * half) (high : p * half < (v + 1) * (r + 1)) where
  least : r * whole ≤ part * half
  least = omega (arith, mul-le-mul_left r v_high, mul-le-mul_left k low, mul-le-mul_right half p-low)

  most : r ≤ step → 20 * (k * (step + half + 1)) ≤ whole → 20 * (part * half) < (20 * r + 21) * whole
  most h e =
      let next : p * half + 1 ≤ v * r + v + r + 1 = omega arith in
      omega (arith, mul-le-mul_left k next, mul-le-mul_left r v_low, mul-le-mul_left k h)

pub returns-else-part-lt-LARGE : goal.returns-else-part-lt-LARGE
returns-else-part-lt-LARGE c =
    let part = c.before.args.part in
    let whole = c.before.args.whole in
    let pre = c.before.requires in
    let p = part / 16_384 in
    let v = whole / 16_384 in
    let some : 0 < v + 1 = omega arith in
    let r = p * half / (v + 1) in
    let low = mul-div-le (p * half) (v + 1) in
    let high = lt-mul-div-succ (p * half) some in
    let l = least part whole p v 16_384 r (omega arith) (omega arith) (omega arith) (omega arith) low high in
    let h : r ≤ step = le_of_mul-le-mul_right {k = whole} (omega (arith, l)) pre.0 in
    (l, most part whole p v 16_384 r (omega arith) (omega arith) (omega arith) (omega arith) low high h (omega arith))
