use mathlib.Core.Path.{◌≡◌, refl, ap₂, subst⁻¹}
use Prim.Native.Nat.{◌*◌, ◌≤◌, ◌^◌}
use native.Mathlib.Omega.{arith}
use lib.IntN.{ℤ, pos, nat_abs, ◌+ℤ◌, ◌*ℤ◌}
use lib.Signed.{◌≤ℤ◌, ◌<ℤ◌}
use mir.Facts.{to_z-of_z}
use mir.Syntax.{w64}
use mir.Val.{SFits, to_z, of_z}
use Rattle.exact.specs.Division.{floor_div}
use Rattle.exact.proofs.Differences.{split, zs}
use Rattle.exact.proofs.Integers.{abs-*-le}
use Rattle.exact.proofs.Machine.{ok-fits, fits_le}
use Rattle.secular.specs.FlooredPolynomial.{value}
use Rattle.secular.specs.Sizes.{Sized, most_millionths, most}
use Rattle.secular.specs.declared.Polynomial.{Polynomial}
use Rattle.secular.proofs.Bound.{square_le, linear-le, value-le}
use Rattle.secular.proofs.value.Goals as goal

-- ---- over plain numbers
divisor-in : (d : ℤ) → pos (10 ^ 12) ≤ℤ d → d ≤ℤ pos (2 * 10 ^ 12) → SFits w64 d × (pos 0 <ℤ d) × (nat_abs d ≤ 2 * 10 ^ 12)
divisor-in d = rw (split d) (simp zs (omega arith))

two-fit : (a b : ℤ) → nat_abs a ≤ 2 ^ 40 → nat_abs b ≤ 2 ^ 26 → SFits w64 (a +ℤ b)
two-fit a b = rw (split a, split b) (simp zs (omega arith))

-- ---- what is known from the start
module _ (c : Polynomial) (x : ℤ) (sized : Sized c) (h : nat_abs x ≤ most_millionths) where
  fit : SFits w64 c.c0 × SFits w64 c.c1 × SFits w64 c.c2 × SFits w64 c.divisor
  fit = (
    fits_le (2 ^ 40) c.c0 sized.c0 refl,
    fits_le (2 ^ 25) c.c1 sized.c1 refl,
    fits_le (2 * 10 ^ 6) c.c2 sized.c2 refl,
    (divisor-in c.divisor sized.low sized.high).0,
  )

  c1x-le : nat_abs (c.c1 *ℤ x) ≤ 2 ^ 25 * most_millionths
  c1x-le = abs-*-le c.c1 x (2 ^ 25) most_millionths sized.c1 h

  c2x²-le : nat_abs (c.c2 *ℤ (x *ℤ x)) ≤ 2 * 10 ^ 6 * (most_millionths * most_millionths)
  c2x²-le = abs-*-le c.c2 (x *ℤ x) (2 * 10 ^ 6) (most_millionths * most_millionths) sized.c2 (square_le x h)

  products : SFits w64 (c.c1 *ℤ x) × SFits w64 (x *ℤ x) × SFits w64 (c.c2 *ℤ (x *ℤ x))
  products = (
    fits_le (2 ^ 25 * most_millionths) (c.c1 *ℤ x) c1x-le refl,
    fits_le (most_millionths * most_millionths) (x *ℤ x) (square_le x h) refl,
    fits_le (2 * 10 ^ 6 * (most_millionths * most_millionths)) (c.c2 *ℤ (x *ℤ x)) c2x²-le refl,
  )

  abbrev linear : ℤ
  linear = floor_div (c.c1 *ℤ x) (10 ^ 6)

  abbrev square : ℤ
  square = floor_div (c.c2 *ℤ (x *ℤ x)) (nat_abs c.divisor)

  sum_fits : SFits w64 (c.c0 +ℤ linear)
  sum_fits = two-fit c.c0 linear sized.c0 (omega (arith, linear-le c x h sized.low, sized.c1))

  whole_le : nat_abs (c.c0 +ℤ linear +ℤ square) ≤ most c
  unfolding value
  whole_le = value-le c x h sized.low

  whole-fits : SFits w64 (c.c0 +ℤ linear +ℤ square)
  unfolding most
  whole-fits = fits_le (2 ^ 41) _ (omega (arith, whole_le, sized.c0, sized.c1, sized.c2)) refl

  -- what the first call answers, l
  module _ (k : SFits w64 x) (l : ℤ) (e : l ≡ floor_div (to_z w64 (of_z w64 (to_z w64 (of_z w64 c.c1) *ℤ to_z w64 (of_z w64 x)))) (10 ^ 6)) where
    linear-is : l ≡ linear
    linear-is = simp (to_z-of_z, fit.1, k, products.0) at e

    two-found : SFits w64 (c.c0 +ℤ l)
    two-found = subst⁻¹ (λ (z : ℤ). SFits w64 (c.c0 +ℤ z)) linear-is sum_fits

    -- and the second, s
    module _ (s : ℤ) (f : s ≡ floor_div (to_z w64 (of_z w64 (to_z w64 (of_z w64 c.c2) *ℤ to_z w64 (of_z w64 (to_z w64 (of_z w64 x) *ℤ to_z w64 (of_z w64 x))))))
        (nat_abs (to_z w64 (of_z w64 c.divisor)))) where
      square-is : s ≡ square
      square-is = simp (to_z-of_z, fit.2, fit.3, k, products.1, products.2) at f

      found-is : c.c0 +ℤ l +ℤ s ≡ c.c0 +ℤ linear +ℤ square
      found-is = ap₂ (λ (l s : ℤ). c.c0 +ℤ l +ℤ s) linear-is square-is

      found-fits : SFits w64 (c.c0 +ℤ l +ℤ s)
      found-fits = subst⁻¹ (SFits w64) found-is whole-fits

      found-le : nat_abs (c.c0 +ℤ l +ℤ s) ≤ most c
      found-le = subst⁻¹ (λ (z : ℤ). nat_abs z ≤ most c) found-is whole_le

pub overflow_add-result : goal.overflow_add-result
overflow_add-result c =
    simp (to_z-of_z, (fit c.args.c c.args.x c.requires.0 c.requires.1).0, ok-fits c.floor_div.result c.floor_div.type_inv) (two-found c.args.c c.args.x c.requires.0 c.requires.1 c.ranges.x c.floor_div.result c.floor_div.ensures)

pub overflow_mul-x : goal.overflow_mul-x
overflow_mul-x c = simp (to_z-of_z, c.ranges.x) (products c.args.c c.args.x c.requires.0 c.requires.1).1

pub overflow_mul-c-2 : goal.overflow_mul-c-2
overflow_mul-c-2 c = let p = products c.args.c c.args.x c.requires.0 c.requires.1 in simp (to_z-of_z, (fit c.args.c c.args.x c.requires.0 c.requires.1).2, c.ranges.x, p.1) p.2

pub floor_div-requires-2 : goal.floor_div-requires-2
floor_div-requires-2 c =
    let p = products c.args.c c.args.x c.requires.0 c.requires.1 in
    let f = fit c.args.c c.args.x c.requires.0 c.requires.1 in
    let d = divisor-in c.args.c.divisor c.requires.0.low c.requires.0.high in
    simp (to_z-of_z, f.2, f.3, c.ranges.x, p.1, p.2) (d.1, omega (arith, c2x²-le c.args.c c.args.x c.requires.0 c.requires.1, d.2))

pub overflow_add-result-2 : goal.overflow_add-result-2
overflow_add-result-2 c =
    let two = two-found c.args.c c.args.x c.requires.0 c.requires.1 c.ranges.x c.floor_div.result c.floor_div.ensures in
    simp (to_z-of_z, (fit c.args.c c.args.x c.requires.0 c.requires.1).0, ok-fits c.floor_div.result c.floor_div.type_inv, ok-fits c.floor_div-2.result c.floor_div-2.type_inv, two)
    (found-fits c.args.c c.args.x c.requires.0 c.requires.1 c.ranges.x c.floor_div.result c.floor_div.ensures c.floor_div-2.result c.floor_div-2.ensures)

pub returns : goal.returns
unfolding value
returns c =
    let two = two-found c.args.c c.args.x c.requires.0 c.requires.1 c.ranges.x c.floor_div.result c.floor_div.ensures in
    let whole = found-fits c.args.c c.args.x c.requires.0 c.requires.1 c.ranges.x c.floor_div.result c.floor_div.ensures c.floor_div-2.result c.floor_div-2.ensures in
    simp (to_z-of_z, (fit c.args.c c.args.x c.requires.0 c.requires.1).0, ok-fits c.floor_div.result c.floor_div.type_inv, ok-fits c.floor_div-2.result c.floor_div-2.type_inv, two, whole) (
      found-is c.args.c c.args.x c.requires.0 c.requires.1 c.ranges.x c.floor_div.result c.floor_div.ensures c.floor_div-2.result c.floor_div-2.ensures,
      found-le c.args.c c.args.x c.requires.0 c.requires.1 c.ranges.x c.floor_div.result c.floor_div.ensures c.floor_div-2.result c.floor_div-2.ensures,
    )
