-- A century is a million millionths, and a million is a factor of both sides of q's quotient.
use mathlib.Core.Path.{◌≡◌, sym, ap, ◌∙◌}
use Prim.Native.Nat.{◌/◌}
use native.Mathlib.Omega.{arith}
use lib.Dec.{lit<}
use lib.IntN.{ℤ, pos, nat_abs}
use lib.Signed.{◌≤ℤ◌, yes_non_neg, pos-nat_abs}
use mir.Facts.{to_z-of_z}
use mir.Syntax.{w64}
use mir.Val.{SFits}
use Rattle.exact.specs.Division.{floor_div}
use Rattle.exact.proofs.Division.{floor-scale}
use Rattle.epoch.specs.Epoch.{millionths, epoch}
use Rattle.epoch.proofs.Sizes.{span-size, span-natural}
use Rattle.epoch.proofs.epoch_of.Goals.{Start}
use Rattle.epoch.proofs.epoch_of.Goals as goal

module _ (s : Start) where
  abbrev n : ℤ
  n = s.args.n

  natural : pos 0 ≤ℤ n
  natural = span-natural n s.requires

  q-is : pos (nat_abs n / 3_155_760) ≡ millionths n
  unfolding millionths floor_div
  q-is =
      ap (λ (z : ℤ). floor_div z 3_155_760) (pos-nat_abs n (yes_non_neg natural))
      ∙ sym (floor-scale n 3_155_760 1_000_000 (lit< tt) (lit< tt))

  q-fits : SFits w64 (pos (nat_abs n / 3_155_760))
  q-fits = record { sfits = omega (arith, span-size n s.requires) }

pub returns : goal.returns
returns c = simp (to_z-of_z, c.ranges.n, q-fits c) (ap (epoch (n c)) (q-is c))

pub invariant_of-result : goal.invariant_of-result
invariant_of-result c = simp (to_z-of_z, c.ranges.n, q-fits c) (record { span = c.requires; millionths = q-is c })
