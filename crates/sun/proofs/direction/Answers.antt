-- A cosine and a sine of one angle, rotated.
use mathlib.Core.Path.{◌≡◌}
use mathlib.Core.List.{[], ◌∷◌}
use Prim.Native.Nat.{◌≤◌}
use native.Mathlib.Omega.{arith}
use lib.IntN.{pos, neg_ℤ}
use mir.Facts.{to_z-of_z}
use mir.Syntax.{w64}
use mir.Val.{SFits}
use Rattle.exact.proofs.Machine.{held, ok-fits, negated}
use Rattle.sine.specs.SineContract.{circle_most}
use Rattle.rotation.specs.Rotation.{rotation1}
use Rattle.rotation.specs.Length.{squared_length}
use Rattle.rotation.proofs.Growth.{plane-xy}
use Rattle.rotation.proofs.Components.{rotated-back}
use Rattle.sun.specs.Direction.{direction}
use Rattle.sun.proofs.direction.Goals.{After-rotation1, After-sin}
use Rattle.sun.proofs.direction.Goals as goal

module _ (c : After-sin) where
  fits : SFits w64 c.cos.result × SFits w64 c.sin.result
  fits = (ok-fits _ c.cos.type_inv, ok-fits _ c.sin.type_inv)

  short : squared_length (c.cos.result ∷ c.sin.result ∷ pos 0 ∷ []) ≤ circle_most
  short = plane-xy c.args.s c.requires.0 c.cos.ensures.0 c.sin.ensures.value

pub rotation1-requires : goal.rotation1-requires
rotation1-requires c =
    let n = negated c.args.epsilon (omega arith) in
    simp (to_z-of_z, c.ranges.epsilon, n.0) (omega (arith, n.2))

pub rotated-requires : goal.rotated-requires
rotated-requires c = let d = (goal.at.rotated-requires c).After-sin in simp (to_z-of_z, (fits d).0, (fits d).1) (c.rotation1.ensures.1, omega (arith, short d))

rotation-is : (c : After-rotation1) → c.rotation1.result ≡ rotation1 (neg_ℤ c.args.epsilon)
unfolding held
rotation-is c = rotated-back rotation1 c.args.epsilon c.ranges.epsilon (omega arith) c.rotation1.ensures.0

pub returns : goal.returns
unfolding direction
returns c =
    let d = (goal.at.returns c).After-sin in
    let e = simp (to_z-of_z, (fits d).0, (fits d).1) at c.rotated.ensures in
    (cc (e.0, rotation-is (goal.at.returns c).After-rotation1, c.cos.ensures.0, c.sin.ensures.value), omega (arith, e.1, short d))
