-- The terms that both editions share are summed once; each sum is rounded once, and each longitude is that of its edition.
use mathlib.Core.Path.{◌≡◌, refl, ap, ap₂, subst⁻¹, ◌∙◌}
use mathlib.Core.List.{List}
use Prim.Native.Nat.{ℕ, ◌≤◌, ◌<◌, ◌^◌}
use native.Mathlib.Omega.{arith}
use lib.IntN.{ℤ, pos, nat_abs, ◌+ℤ◌, ◌-ℤ◌}
use mir.Facts.{to_z-of_z}
use mir.Syntax.{w64}
use mir.Val.{SFits}
use Rattle.exact.specs.Division.{nearest_div}
use Rattle.exact.specs.Reduction.{turn, reduced}
use Rattle.exact.proofs.Machine.{ok-fits}
use Rattle.sine_table.specs.Table.{R}
use Rattle.epoch.specs.Sizes.{InSpan}
use Rattle.arguments.specs.Sizes.{IsArguments}
use Rattle.arguments.proofs.AllReduced.{are-arguments}
use Rattle.frame.specs.Nutation.{dpsi}
use Rattle.sun.specs.Longitude.{mean_longitude, first_sum, IsLongitude}
use Rattle.sun.proofs.Editions.{full-is-not-short, short-first-sum, full-first-sum}
use Rattle.sun.proofs.LongitudeBound.{is-longitude}
use Rattle.sun.proofs.both_longitudes.Goals.{Start, After-full_sum-full, After-rounded, After-rounded-2, After-longitude_by}
use Rattle.sun.proofs.both_longitudes.Goals as goal

-- ---- the two sums
fit : (c : After-full_sum-full) → SFits w64 c.short_sum-short.result × SFits w64 c.full_sum-full.result
fit c = (ok-fits c.short_sum-short.result c.short_sum-short.type_inv, ok-fits c.full_sum-full.result c.full_sum-full.type_inv)

-- ---- the longitude of an edition whose sum is rounded
module _ (s : Start) where
  are : IsArguments s.args.arguments.now
  are = subst⁻¹ IsArguments s.requires.0 (are-arguments s.args.e)

  edition-is : (edition x : ℤ) (r : ℕ) → InSpan s.args.e → x ≡ first_sum edition s.args.e
      → r ≡ reduced (mean_longitude s.args.arguments.now +ℤ x +ℤ s.args.dpsi -ℤ s.args.aberration) → r < turn
      → IsLongitude edition s.args.aberration s.args.e r
  edition-is edition x r span first is l =
      let a = s.args in
      let k = a.aberration in
      let e = a.e in
      is-longitude edition k e r span
      (is
      ∙ ap₂ (λ (x n : ℤ). reduced (mean_longitude a.arguments.now +ℤ x +ℤ n -ℤ k)) first s.requires.1.0
      ∙ ap (λ (l : List ℤ). reduced (mean_longitude l +ℤ first_sum edition e +ℤ dpsi l e.q -ℤ k)) s.requires.0)
      l

pub full_sum-full-requires : goal.full_sum-full-requires
full_sum-full-requires c = simp (to_z-of_z, ok-fits c.short_sum-short.result c.short_sum-short.type_inv) (c.requires.0, (c.short_sum-short.ensures.0, c.short_sum-short.ensures.1))

-- ---- the short edition
pub rounded-requires : goal.rounded-requires
rounded-requires c = simp (to_z-of_z, (fit (goal.at.rounded-requires c).After-full_sum-full).0) (omega (arith, c.short_sum-short.ensures.1))

module _ (c : After-rounded) where
  abbrev sum : ℤ
  sum = c.rounded.result

  sum_fits : SFits w64 sum
  sum_fits = ok-fits sum c.rounded.type_inv

  sum_is : (sum ≡ nearest_div c.short_sum-short.result R) × (nat_abs sum ≤ 2 ^ 29)
  sum_is =
      let r = simp (to_z-of_z, ok-fits c.short_sum-short.result c.short_sum-short.type_inv) at c.rounded.ensures in
      (r.0, r.1 (2 ^ 29) (omega (arith, c.short_sum-short.ensures.1)))

pub longitude_by-requires : goal.longitude_by-requires
longitude_by-requires c =
    let r = (goal.at.longitude_by-requires c).After-rounded in
    let s = (goal.at.longitude_by-requires c).Start in
    simp (to_z-of_z, sum_fits r, c.ranges.dpsi, c.ranges.aberration) (are s, (sum_is r).1, c.requires.1.1, c.requires.2)

-- ---- the full one
pub rounded-requires-2 : goal.rounded-requires-2
rounded-requires-2 c =
    let f = (goal.at.rounded-requires-2 c).After-full_sum-full in
    simp (to_z-of_z, (fit f).1) (omega (arith, c.short_sum-short.ensures.1, c.full_sum-full.ensures.1))

module _ (c : After-rounded-2) where
  abbrev full : ℤ
  full = c.rounded-2.result

  full-fits : SFits w64 full
  full-fits = ok-fits full c.rounded-2.type_inv

  full_is : (full ≡ nearest_div c.full_sum-full.result R) × (nat_abs full ≤ 2 ^ 29)
  full_is =
      let r = simp (to_z-of_z, ok-fits c.full_sum-full.result c.full_sum-full.type_inv) at c.rounded-2.ensures in
      (r.0, r.1 (2 ^ 29) c.full_sum-full.ensures.1)

pub longitude_by-requires-2 : goal.longitude_by-requires-2
longitude_by-requires-2 c =
    let r = (goal.at.longitude_by-requires-2 c).After-rounded-2 in
    let s = (goal.at.longitude_by-requires-2 c).Start in
    simp (to_z-of_z, full-fits r, c.ranges.dpsi, c.ranges.aberration) (are s, (full_is r).1, c.requires.1.1, c.requires.2)

pub returns : goal.returns
returns c =
    let a = goal.at.returns c in
    let s = a.Start in
    let r = a.After-rounded in
    let f = a.After-rounded-2 in (
      edition-is s (pos 1) (sum r) c.longitude_by.result c.short_sum-short.ensures.2
          ((sum_is r).0 ∙ short-first-sum (pos 1) c.args.e c.short_sum-short.result refl c.short_sum-short.ensures.0)
          (simp (to_z-of_z, sum_fits r, c.ranges.dpsi, c.ranges.aberration) at c.longitude_by.ensures.0)
          c.longitude_by.ensures.1,
      edition-is s (pos 2) (full f) c.longitude_by-2.result c.short_sum-short.ensures.2
          ((full_is f).0 ∙ full-first-sum (pos 2) c.args.e c.full_sum-full.result full-is-not-short c.full_sum-full.ensures.0)
          (simp (to_z-of_z, full-fits f, c.ranges.dpsi, c.ranges.aberration) at c.longitude_by-2.ensures.0)
          c.longitude_by-2.ensures.1,
    )
