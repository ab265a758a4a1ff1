-- Two sums of one series, each small.
use mathlib.Core.Path.{◌≡◌, refl, ap₂, ◌∙◌}
use mathlib.Core.List.{List, ◌++◌}
use Prim.Native.Nat.{ℕ, ◌+◌, ◌*◌, ◌≤◌}
use native.Mathlib.Nat.{le_trans}
use native.Mathlib.Omega.{arith}
use lib.IntN.{ℤ, nat_abs, ◌+ℤ◌}
use mir.Facts.{to_z-of_z}
use mir.Syntax.{w64}
use mir.Val.{SFits}
use Rattle.exact.proofs.Differences.{split, zs}
use Rattle.exact.proofs.Machine.{ok-fits, fits_le}
use Rattle.sine_table.specs.Table.{R}
use Rattle.sine.specs.Sine.{Sin}
use Rattle.series.specs.Term.{Term}
use Rattle.series.specs.Sum.{total, weights}
use Rattle.series.specs.Rows.{varying_terms, steady_terms}
use Rattle.series.specs.Sizes.{heaviest}
use Rattle.series.proofs.Sums.{total-append, weights-append}
use Rattle.series.proofs.Series.sum.Goals.{After-steady_sum}
use Rattle.series.proofs.Series.sum.Goals as goal

two-le : (a b : ℤ) (m n : ℕ) → nat_abs a ≤ R * m → nat_abs b ≤ R * n → nat_abs (a +ℤ b) ≤ R * (m + n)
two-le a b m n = rw (split a, split b) (simp zs (omega arith))

module _ (c : After-steady_sum) where
  abbrev arguments : List ℤ
  arguments = c.args.arguments.now

  abbrev q : ℤ
  q = c.args.q

  abbrev a : ℤ
  a = c.varying_sum.result

  abbrev b : ℤ
  b = c.steady_sum.result

  abbrev varying : List Term
  varying = varying_terms c.args.self.now.varying.now

  abbrev steady : List Term
  steady = steady_terms c.args.self.now.groups.now

  a-is : (a ≡ total Sin arguments q varying) × (nat_abs a ≤ R * weights varying)
  a-is = simp (to_z-of_z, c.ranges.q) at c.varying_sum.ensures

  sum_is : a +ℤ b ≡ total Sin arguments q (varying ++ steady)
  sum_is = ap₂ ◌+ℤ◌ a-is.0 (c.steady_sum.ensures.0 q) ∙ total-append Sin arguments q varying steady

  sum-le : nat_abs (a +ℤ b) ≤ R * weights (varying ++ steady)
  sum-le = rw (weights-append varying steady) (two-le a b (weights varying) (weights steady) a-is.1 c.steady_sum.ensures.1)

  fit : SFits w64 a × SFits w64 b × SFits w64 (a +ℤ b)
  fit = (
    ok-fits a c.varying_sum.type_inv,
    ok-fits b c.steady_sum.type_inv,
    fits_le (R * (heaviest + heaviest)) (a +ℤ b)
        (le_trans sum-le (omega (arith, weights-append varying steady, c.requires.0.light, c.requires.1.light))) refl,
  )

pub returns : goal.returns
returns c = simp (to_z-of_z, (fit c).0, (fit c).1, (fit c).2) (sum_is c, sum-le c)
