-- Each product stays within 64 bits, and the law `radius-range` has the rest.
use mathlib.Core.Path.{◌≡◌, refl, ap, subst⁻¹, ◌∙◌}
use Prim.Native.Nat.{◌*◌, ◌≤◌, ◌^◌}
use native.Mathlib.Omega.{arith}
use lib.IntN.{ℤ, pos, nat_abs, ◌+ℤ◌, ◌-ℤ◌, ◌*ℤ◌}
use lib.Signed.{◌≤ℤ◌, ◌<ℤ◌}
use mir.Facts.{to_z-of_z}
use mir.Syntax.{w64}
use mir.Val.{SFits}
use Rattle.exact.specs.Division.{nearest_div}
use Rattle.exact.proofs.Differences.{split, zs}
use Rattle.exact.proofs.Integers.{abs-*-le}
use Rattle.exact.proofs.Machine.{ok-fits, fits_le, to-nat}
use Rattle.sine_table.specs.Table.{R}
use Rattle.orbit.specs.Sizes.{eccentricity_most, RadiusSized}
use Rattle.orbit.specs.Orbit.{radius_by}
use Rattle.orbit.proofs.RadiusRange.{divisor, divisor_range, quotient, quotient-range, radius-range}
use Rattle.orbit.proofs.radius_by.Goals.{After-nearest_div, After-nearest_div-divisor, Start}
use Rattle.orbit.proofs.radius_by.Goals as goal

module _ (s : Start) where
  abbrev e : ℤ
  e = s.args.e

  product_le : nat_abs (e *ℤ s.args.cosine) ≤ eccentricity_most * R
  product_le = abs-*-le e s.args.cosine eccentricity_most R s.requires.0 s.requires.1

  product-fits : SFits w64 (e *ℤ s.args.cosine)
  product-fits = fits_le (eccentricity_most * R) (e *ℤ s.args.cosine) product_le refl

  square_le : nat_abs (e *ℤ e) ≤ eccentricity_most * eccentricity_most
  square_le = abs-*-le e e eccentricity_most eccentricity_most s.requires.0 s.requires.0

  square-fits : SFits w64 (e *ℤ e)
  square-fits = fits_le (eccentricity_most * eccentricity_most) (e *ℤ e) square_le refl

  difference-fits : SFits w64 (pos (R * R) -ℤ e *ℤ e) × (nat_abs (pos (R * R) -ℤ e *ℤ e) ≤ 2 ^ 61)
  difference-fits = go (e *ℤ e) square_le
    where
      go : (z : ℤ) → nat_abs z ≤ eccentricity_most * eccentricity_most → SFits w64 (pos (R * R) -ℤ z) × (nat_abs (pos (R * R) -ℤ z) ≤ 2 ^ 61)
      go z = rw (split z) (simp zs (omega arith))

  -- the divisor, as the law has it
  abbrev law-divisor : ℤ
  law-divisor = divisor e s.args.cosine s.requires.0 s.requires.1

module _ (c : After-nearest_div-divisor) where
  abbrev start : Start
  start = c.before

  abbrev share : ℤ
  share = c.nearest_div-divisor.result

  share-fits : SFits w64 share
  share-fits = ok-fits share c.nearest_div-divisor.type_inv

  divisor-is : pos R +ℤ share ≡ law-divisor start
  divisor-is = ap (λ (z : ℤ). pos R +ℤ z) (simp (to_z-of_z, start.ranges.e, start.ranges.cosine, product-fits start) at c.nearest_div-divisor.ensures)

  divisor-sized : SFits w64 (pos R +ℤ share) × (pos 0 <ℤ (pos R +ℤ share)) × (nat_abs (pos R +ℤ share) ≤ 2 ^ 31)
  divisor-sized =
      let s = start in
      let r = divisor_range (e s) s.args.cosine s.requires.0 s.requires.1 in
      rw divisor-is (fits_le (2 ^ 31) (law-divisor s) (omega (arith, r.2, s.requires.0)) refl, r.0, omega (arith, r.2, s.requires.0))

-- the last quotient is that of the law, which is positive
module _ (c : After-nearest_div) where
  abbrev second : Start
  second = c.before.before

  abbrev found : ℤ
  found = c.nearest_div.result

  found-fits : SFits w64 found
  found-fits = ok-fits found c.nearest_div.type_inv

  found-is : found ≡ quotient (e second) second.args.cosine second.requires.0 second.requires.1
  found-is =
      let s = second in
      let d = c.before in
      let is = simp (to_z-of_z, s.ranges.e, square-fits s, (difference-fits s).0, share-fits d, (divisor-sized d).0) at c.nearest_div.ensures in
      is ∙ ap (λ (z : ℤ). nearest_div (pos (R * R) -ℤ e s *ℤ e s) (nat_abs z)) (divisor-is d)

  found-natural : pos 0 ≤ℤ found
  found-natural = let s = second in rw found-is (quotient-range (e s) s.args.cosine s.requires.0 s.requires.1).0

pub overflow_add-divisor : goal.overflow_add-divisor
overflow_add-divisor c = simp (to_z-of_z, share-fits c) (divisor-sized c).0

pub overflow_mul-e-2 : goal.overflow_mul-e-2
overflow_mul-e-2 c = simp (to_z-of_z, c.before.ranges.e) (square-fits (start c))

pub overflow_sub-e : goal.overflow_sub-e
overflow_sub-e c = let s = start c in simp (to_z-of_z, s.ranges.e, square-fits s) (difference-fits s).0

pub nearest_div-requires : goal.nearest_div-requires
nearest_div-requires c =
    let s = start c in
    let d = divisor-sized c in
    let f = difference-fits s in
    simp (to_z-of_z, s.ranges.e, square-fits s, f.0, share-fits c, d.0) (d.1, omega (arith, f.1, d.2))

pub overflow_cast-result : goal.overflow_cast-result
overflow_cast-result c = simp (to_z-of_z, found-fits c) (to-nat (found c) (found-natural c) (found-fits c))

pub returns : goal.returns
unfolding radius_by
returns c =
    let s = second c in
    let is = ap nat_abs (found-is c) in
    simp (to_z-of_z, found-fits c) (is, subst⁻¹ RadiusSized is (radius-range (e s) s.args.cosine s.requires.0 s.requires.1))
