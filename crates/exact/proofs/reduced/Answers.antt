-- The machine's remainder, with a turn more where it is negative, is the angle, and its cast loses nothing.
use mathlib.Core.Path.{◌≡◌, refl}
use Prim.Native.Nat.{◌<◌}
use native.Mathlib.Omega.{arith}
use lib.Dec.{lit<}
use lib.IntN.{ℤ, pos, nat_abs, ◌+ℤ◌}
use lib.Signed.{rem_z}
use mir.Facts.{to_z-of_z}
use mir.Syntax.{w64}
use mir.Val.{SFits}
use Rattle.exact.specs.Reduction.{turn, reduced}
use Rattle.exact.proofs.Differences.{split, zs}
use Rattle.exact.proofs.Quotient.{rem-fits, rem-abs, rem-more, rem-same}
use Rattle.exact.proofs.Machine.{is_lt, is_ge}
use Rattle.exact.proofs.Reduction.{reduced-lt}
use Rattle.exact.proofs.reduced.Goals.{Else-r-lt0, Start, Then-r-lt0}
use Rattle.exact.proofs.reduced.Goals as goal

turn-pos : 0 < turn
turn-pos = lit< tt

more-fits : (a : ℤ) → SFits w64 (rem_z a (pos turn) +ℤ pos turn)
more-fits a = go (rem_z a (pos turn)) (rem-abs a turn turn-pos)
  where
    go : (r : ℤ) → nat_abs r < turn → SFits w64 (r +ℤ pos turn)
    go r = rw (split r) (simp zs (omega arith))

as-angle : (a z : ℤ) → z ≡ pos (reduced a) → (nat_abs z ≡ reduced a) × (nat_abs z < turn)
as-angle a z e = rw e (refl, reduced-lt a)

-- ---- the two ways
module _ (s : Start) where
  abbrev a : ℤ
  a = s.args.a

  a-fits : SFits w64 a
  a-fits = s.ranges.a

  r-fits : SFits w64 (rem_z a (pos turn))
  r-fits = rem-fits w64 a (pos turn) a-fits

more : (c : Then-r-lt0) → rem_z (a c.before) (pos turn) +ℤ pos turn ≡ pos (reduced (a c.before))
unfolding reduced
more c = let s = c.before in rem-more (a s) turn turn-pos (is_lt (simp (to_z-of_z, a-fits s, r-fits s) at c.if-r-lt0.true))

same : (c : Else-r-lt0) → rem_z (a c.before) (pos turn) ≡ pos (reduced (a c.before))
unfolding reduced
same c = let s = c.before in rem-same (a s) turn turn-pos (is_ge (simp (to_z-of_z, a-fits s, r-fits s) at c.if-r-lt0.false))

pub returns-then-r-lt0 : goal.returns-then-r-lt0
returns-then-r-lt0 c = let s = c.before in simp (to_z-of_z, a-fits s, r-fits s, more-fits (a s)) (as-angle (a s) _ (more c))

pub returns-else-r-lt0 : goal.returns-else-r-lt0
returns-else-r-lt0 c = let s = c.before in simp (to_z-of_z, a-fits s, r-fits s) (as-angle (a s) _ (same c))
