-- The sum is small enough to be reduced.
use mathlib.Core.Path.{ap, ◌∙◌}
use Prim.Native.Nat.{◌-◌, ◌≤◌, ◌<◌, ◌^◌}
use native.Mathlib.Omega.{arith}
use lib.IntN.{ℤ, nat_abs, ◌+ℤ◌}
use mir.Facts.{to_z-of_z}
use mir.Syntax.{w64}
use mir.Val.{SFits}
use Rattle.exact.specs.Reduction.{turn, reduced}
use Rattle.exact.proofs.Differences.{split, zs}
use Rattle.exact.proofs.Machine.{ok-fits, between-nat}
use Rattle.limb.specs.Limb.{centre_angle}
use Rattle.limb.proofs.centre_angle.Goals.{After-from_limb, Start}
use Rattle.limb.proofs.centre_angle.Goals as goal

module _ (c : After-from_limb) where
  abbrev start : Start
  start = c.before

  abbrev offset : ℤ
  offset = c.from_limb.result

  offset-fits : SFits w64 offset
  offset-fits = ok-fits offset c.from_limb.type_inv

  sum : SFits w64 (start.args.angle +ℤ offset) × (nat_abs (start.args.angle +ℤ offset) ≤ 2 ^ 61)
  sum = go start.args.angle offset (between-nat 0 (turn - 1) start.args.angle start.requires.1).2 c.from_limb.ensures.1
    where
      go : (a o : ℤ) → nat_abs a ≤ turn - 1 → nat_abs o < 2 ^ 31 → SFits w64 (a +ℤ o) × (nat_abs (a +ℤ o) ≤ 2 ^ 61)
      go a o = rw (split a, split o) (simp zs (omega arith))

pub overflow_add-angle : goal.overflow_add-angle
overflow_add-angle c = simp (to_z-of_z, (start c).ranges.angle, offset-fits c) (sum c).0

pub reduced_bounded-requires : goal.reduced_bounded-requires
reduced_bounded-requires c = simp (to_z-of_z, (start c).ranges.angle, offset-fits c, (sum c).0) (sum c).1

pub returns : goal.returns
unfolding centre_angle
returns c =
    let d = c.before in
    let s = start d in
    let r = simp (to_z-of_z, s.ranges.angle, offset-fits d, (sum d).0) at c.reduced_bounded.ensures in
    let is = simp (to_z-of_z, s.ranges.limb) at d.from_limb.ensures.0 in
    (r.0 ∙ ap (λ (z : ℤ). reduced (s.args.angle +ℤ z)) is, r.1)
