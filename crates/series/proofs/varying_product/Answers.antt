-- By the law of rows.
use mathlib.Core.Path.{refl, ap, ◌∙◌}
use Prim.Native.Nat.{ℕ, ◌≤◌, ◌^◌}
use native.Mathlib.Omega.{arith}
use lib.Dec.{lit<}
use lib.IntN.{ℤ, pos, nat_abs, ◌+ℤ◌, ◌*ℤ◌}
use lib.ListN.{length, get_or}
use mir.Facts.{to_z-of_z}
use mir.Syntax.{w64}
use mir.Val.{SFits}
use borrow.Author.Rules.{rules}
use Rattle.exact.specs.Reduction.{turn, reduced}
use Rattle.exact.specs.Nth.{nth}
use Rattle.exact.proofs.Differences.{split, zs}
use Rattle.exact.proofs.Machine.{ok-fits, fits_le, fits_lt}
use Rattle.secular.specs.FlooredPolynomial as secular
use Rattle.secular.specs.Sizes.{most}
use Rattle.secular.specs.declared.Polynomial.{Polynomial}
use Rattle.sine.specs.Sine.{Sin}
use Rattle.series.specs.Sizes.{VaryingRow}
use Rattle.series.proofs.Rows.{varying-value}
use Rattle.series.proofs.Sizes.{multiple-le}
use Rattle.series.proofs.varying_product.Goals.{Start}
use Rattle.series.proofs.varying_product.Goals as goal

sum_fits : (k a : ℤ) → nat_abs k ≤ 2 ^ 35 → nat_abs a ≤ 2 ^ 42 → SFits w64 (k +ℤ a) × (nat_abs (k +ℤ a) ≤ 2 ^ 61)
sum_fits k a = rw (split k, split a) (simp zs (omega arith))

module _ (s : Start) where
  abbrev at : ℕ → ℤ
  at i = nth s.args.row i

  row : VaryingRow (length s.args.arguments.now) s.args.row
  row = s.requires.2

  -- the numbers of the row
  small : (nat_abs (at 0) ≤ 2 ^ 28) × (nat_abs (at 1) ≤ 2 ^ 20) × (nat_abs (at 2) ≤ 2 ^ 20) × (nat_abs (at 3) ≤ 2 ^ 35) × (nat_abs (at 4) ≤ 255)
  small =
      let r = row.small in
      (r 0 (lit< tt), r 1 (lit< tt), r 2 (lit< tt), r 3 (lit< tt), r 4 (lit< tt))

  fit : SFits w64 (at 0) × SFits w64 (at 1) × SFits w64 (at 2) × SFits w64 (at 3) × SFits w64 (at 4)
  fit = (
    fits_le (2 ^ 28) (at 0) small.0 refl,
    fits_le (2 ^ 20) (at 1) small.1 refl,
    fits_le (2 ^ 20) (at 2) small.2 refl,
    fits_le (2 ^ 35) (at 3) small.3 refl,
    fits_le 255 (at 4) small.4 refl,
  )

  index-fits : SFits w64 (at 5)
  index-fits = let r = row in search rules

  abbrev amplitude : Polynomial
  amplitude = secular.polynomial (at 0) (at 1) (at 2) (10 ^ 12)

  most-le : most amplitude ≤ 2 ^ 29
  unfolding most
  most-le = omega (arith, small.0, small.1, small.2)

  -- the argument
  abbrev argument : ℤ
  argument = get_or s.args.arguments.now (nat_abs (at 5)) (pos 0)

  argument-fits : SFits w64 argument
  argument-fits = fits_lt turn argument (s.requires.0 (nat_abs (at 5))) refl

  times-le : nat_abs (at 4 *ℤ argument) ≤ 2 ^ 42
  times-le = multiple-le (at 4) argument small.4 (s.requires.0 (nat_abs (at 5)))

  times-fits : SFits w64 (at 4 *ℤ argument)
  times-fits = fits_le (2 ^ 42) (at 4 *ℤ argument) times-le refl

  angle : SFits w64 (at 3 +ℤ at 4 *ℤ argument) × (nat_abs (at 3 +ℤ at 4 *ℤ argument) ≤ 2 ^ 61)
  angle = sum_fits (at 3) (at 4 *ℤ argument) small.3 times-le

pub overflow_mul-times : goal.overflow_mul-times
overflow_mul-times c = let d = (goal.at.overflow_mul-times c).Start in simp (to_z-of_z, index-fits d, (fit d).4, argument-fits d) (times-fits d)

pub overflow_add-phase : goal.overflow_add-phase
overflow_add-phase c =
    let d = (goal.at.overflow_add-phase c).Start in
    let f = fit d in
    simp (to_z-of_z, index-fits d, f.3, f.4, argument-fits d, times-fits d) (angle d).0

pub product-requires : goal.product-requires
product-requires c =
    let d = (goal.at.product-requires c).Start in
    let f = fit d in
    let s = angle d in
    let v = simp (to_z-of_z, f.0, f.1, f.2, c.ranges.q) at c.value.ensures in
    simp (to_z-of_z, index-fits d, ok-fits c.value.result c.value.type_inv, f.3, f.4, argument-fits d, times-fits d, s.0) (omega (arith, v.1, most-le d), s.1)

pub returns : goal.returns
returns c =
    let d = (goal.at.returns c).Start in
    let f = fit d in
    let v = simp (to_z-of_z, f.0, f.1, f.2, c.ranges.q) at c.value.ensures in
    let e = simp (to_z-of_z, index-fits d, ok-fits c.value.result c.value.type_inv, f.3, f.4, argument-fits d, times-fits d, (angle d).0) at c.product.ensures in
    simp (to_z-of_z, ok-fits c.product.result c.product.type_inv)
    (e ∙ ap (λ (z : ℤ). z *ℤ Sin (reduced (at d 3 +ℤ at d 4 *ℤ argument d))) v.0 ∙ varying-value d.args.arguments.now Sin d.args.q d.args.row)
