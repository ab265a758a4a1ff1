-- Half of d more, rounded down, is the nearest, also for an odd d.
use mathlib.Core.Path.{◌≡◌, ◌∙◌}
use Prim.Native.Nat.{ℕ, ◌+◌, ◌*◌, ◌/◌, ◌≤◌, ◌^◌}
use native.Mathlib.Omega.{arith}
use lib.IntN.{ℤ, pos, nat_abs, ◌+ℤ◌}
use lib.Signed.{quot_z, ◌<ℤ◌, lt_z_yes}
use mir.Facts.{to_z-of_z}
use mir.Syntax.{w64}
use mir.Val.{SFits}
use borrow.Author.Rules.{sfits_of}
use Rattle.exact.specs.Division.{floor_div, nearest_div}
use Rattle.exact.proofs.Differences.{split, zs, abs-dif}
use Rattle.exact.proofs.Division.{nearest-half}
use Rattle.exact.proofs.Quotient.{Positive, some, positive, quot_fits}
use Rattle.exact.proofs.nearest_div.Goals.{Start}
use Rattle.exact.proofs.nearest_div.Goals as goal

record Half (a d : ℤ) : Type 0 where
  fits : SFits w64 (a +ℤ quot_z d (pos 2))
  sized : nat_abs (a +ℤ quot_z d (pos 2)) + nat_abs d ≤ 2 ^ 62
  same : floor_div (a +ℤ quot_z d (pos 2)) (nat_abs d) ≡ nearest_div a (nat_abs d)

half : (a d : ℤ) → pos 0 <ℤ d → nat_abs a + 2 * nat_abs d ≤ 2 ^ 62 → Half a d
half a d h = go (positive d h)
  where
    sizes : (a : ℤ) (n : ℕ) → nat_abs a + 2 * n ≤ 2 ^ 62 → SFits w64 (a +ℤ pos (n / 2)) × (nat_abs (a +ℤ pos (n / 2)) + n ≤ 2 ^ 62)
    sizes a n = rw (split a) (simp (zs, abs-dif) (omega arith))

    go : {d : ℤ} → Positive d → nat_abs a + 2 * nat_abs d ≤ 2 ^ 62 → Half a d
    go (some n p) b = let s = sizes a n b in record { fits = s.0; sized = s.1; same = nearest-half a n p }

known : (s : Start) → Half s.args.a s.args.d
known s = half s.args.a s.args.d s.requires.0 s.requires.1

half-fits : (s : Start) → SFits w64 (quot_z s.args.d (pos 2))
half-fits s = quot_fits w64 s.args.d (pos 2) s.ranges.d (lt_z_yes tt)

pub returns : goal.returns
returns c =
    let s = c.before in
    let k = known s in
    let e = simp (to_z-of_z, s.ranges.a, s.ranges.d, half-fits s, k.fits) at c.floor_div.ensures in
    simp (to_z-of_z, sfits_of, c.floor_div.type_inv) (e ∙ k.same)
