use mathlib.Core.Path.{refl}
use Prim.Native.Nat.{◌≤◌, ◌<◌, ◌^◌}
use native.Mathlib.Omega.{arith}
use lib.IntN.{ℤ, nat_abs, ◌+ℤ◌, ◌-ℤ◌}
use mir.Facts.{to_z-of_z}
use mir.Syntax.{w64}
use mir.Val.{SFits}
use Rattle.exact.specs.Reduction.{turn}
use Rattle.exact.proofs.Differences.{split, zs}
use Rattle.exact.proofs.Machine.{fits_lt}
use Rattle.arguments.specs.PrintedArguments.{L}
use Rattle.sun.specs.Longitude.{mean_longitude}
use Rattle.sun.proofs.longitude_by.Goals.{Start}
use Rattle.sun.proofs.longitude_by.Goals as goal

-- ---- over plain numbers
abbrev Sums : ℤ → ℤ → ℤ → ℤ → Type 0
Sums l f n k = SFits w64 (l +ℤ f) × SFits w64 (l +ℤ f +ℤ n) × SFits w64 (l +ℤ f +ℤ n -ℤ k) × (nat_abs (l +ℤ f +ℤ n -ℤ k) ≤ 2 ^ 61)

sums : (l f n k : ℤ) → nat_abs l < turn → nat_abs f ≤ 2 ^ 29 → nat_abs n ≤ 2 ^ 20 → nat_abs k ≤ 2 ^ 20 → Sums l f n k
sums l f n k = rw (split l, split f, split n, split k) (simp zs (omega arith))

module _ (s : Start) where
  abbrev mean : ℤ
  mean = mean_longitude s.args.arguments.now

  small : nat_abs mean < turn
  small = s.requires.0.reduced L

  mean-fits : SFits w64 mean
  mean-fits = fits_lt turn mean small refl

  all : Sums mean s.args.first_sum s.args.dpsi s.args.aberration
  all = sums mean s.args.first_sum s.args.dpsi s.args.aberration small s.requires.1 s.requires.2 s.requires.3

pub overflow_add-arguments : goal.overflow_add-arguments
overflow_add-arguments c = let s = (goal.at.overflow_add-arguments c).Start in simp (to_z-of_z, mean-fits s, s.ranges.first_sum) (all s).0

pub overflow_add-arguments-2 : goal.overflow_add-arguments-2
overflow_add-arguments-2 c = let s = (goal.at.overflow_add-arguments-2 c).Start in simp (to_z-of_z, mean-fits s, s.ranges.first_sum, (all s).0, s.ranges.dpsi) (all s).1

pub overflow_sub-arguments : goal.overflow_sub-arguments
overflow_sub-arguments c =
    let s = (goal.at.overflow_sub-arguments c).Start in
    simp (to_z-of_z, mean-fits s, s.ranges.first_sum, (all s).0, (all s).1, s.ranges.dpsi, s.ranges.aberration) (all s).2

pub reduced_bounded-requires : goal.reduced_bounded-requires
reduced_bounded-requires c =
    let s = (goal.at.reduced_bounded-requires c).Start in
    simp (to_z-of_z, mean-fits s, s.ranges.first_sum, (all s).0, (all s).1, (all s).2, s.ranges.dpsi, s.ranges.aberration) (all s).3

pub returns : goal.returns
returns c =
    let s = (goal.at.returns c).Start in
    simp (to_z-of_z, mean-fits s, s.ranges.first_sum, (all s).0, (all s).1, (all s).2, s.ranges.dpsi, s.ranges.aberration) at c.reduced_bounded.ensures
