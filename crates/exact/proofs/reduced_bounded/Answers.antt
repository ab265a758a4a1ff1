-- With so many turns more the angle is natural, and the machine's rest of it is the angle.
use Prim.Native.Nat.{ℕ, ◌*◌, ◌≤◌, ◌^◌}
use native.Mathlib.Omega.{arith}
use lib.Dec.{lit<}
use lib.IntN.{ℤ, pos, nat_abs, ◌+ℤ◌}
use lib.Signed.{◌≤ℤ◌, yes_non_neg, pos-nat_abs}
use mir.Facts.{to_z-of_z}
use mir.Syntax.{w64}
use mir.Val.{SFits}
use Rattle.exact.specs.Reduction.{turn, reduced}
use Rattle.exact.proofs.Differences.{split, zs}
use Rattle.exact.proofs.Reduction.{rest-offset, reduced-lt}
use Rattle.exact.proofs.reduced_bounded.Goals as goal

abbrev turns : ℕ
turns = 200_000_000 * turn

more : (a : ℤ) → nat_abs a ≤ 2 ^ 61 → SFits w64 (a +ℤ pos turns) × (pos 0 ≤ℤ (a +ℤ pos turns))
more a = rw (split a) (simp zs (omega arith))

pub returns : goal.returns
unfolding reduced
returns c =
    let a = c.args.a in
    let m = more a c.requires in
    let e = rest-offset a (pos 200_000_000) _ turn (lit< tt) (pos-nat_abs _ (yes_non_neg m.1)) in
    simp (to_z-of_z, c.ranges.a, m.0) (e, rw e (reduced-lt a))
