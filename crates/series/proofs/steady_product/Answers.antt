-- Each multiple of an argument is small, so that the sums fit.
use mathlib.Core.Path.{refl}
use Prim.Native.Nat.{ℕ, ◌≤◌, ◌^◌}
use native.Mathlib.Omega.{arith}
use lib.Dec.{lit<}
use lib.IntN.{ℤ, nat_abs, ◌+ℤ◌, ◌*ℤ◌}
use mir.Facts.{to_z-of_z}
use mir.Syntax.{w64}
use mir.Val.{SFits}
use Rattle.exact.specs.Nth.{nth}
use Rattle.exact.proofs.Differences.{split, zs}
use Rattle.exact.proofs.Machine.{ok-fits, fits_le}
use Rattle.series.specs.Sizes.{AtMost, steady_bounds}
use Rattle.series.specs.Rows.{steady_angle}
use Rattle.series.proofs.Sizes.{multiple-le}
use Rattle.series.proofs.steady_product.Goals.{Start}
use Rattle.series.proofs.steady_product.Goals as goal

sums : (k a b c : ℤ) → nat_abs k ≤ 2 ^ 35 → nat_abs a ≤ 2 ^ 42 → nat_abs b ≤ 2 ^ 42 → nat_abs c ≤ 2 ^ 42
    → SFits w64 (k +ℤ a) × SFits w64 (k +ℤ a +ℤ b) × SFits w64 (k +ℤ a +ℤ b +ℤ c) × (nat_abs (k +ℤ a +ℤ b +ℤ c) ≤ 2 ^ 61)
sums k a b c = rw (split k, split a, split b, split c) (simp zs (omega arith))

module _ (s : Start) where
  abbrev at : ℕ → ℤ
  at i = nth s.args.row i

  bounded : AtMost steady_bounds s.args.row
  bounded = s.requires.0

  -- the numbers of the row
  fit : SFits w64 (at 0) × SFits w64 (at 1) × SFits w64 (at 2) × SFits w64 (at 3) × SFits w64 (at 4)
  fit = (
    fits_le (2 ^ 28) (at 0) (bounded 0 (lit< tt)) refl,
    fits_le (2 ^ 35) (at 1) (bounded 1 (lit< tt)) refl,
    fits_le 255 (at 2) (bounded 2 (lit< tt)) refl,
    fits_le 255 (at 3) (bounded 3 (lit< tt)) refl,
    fits_le 255 (at 4) (bounded 4 (lit< tt)) refl,
  )

  -- the multiples
  abbrev x : ℤ
  x = at 2 *ℤ s.args.a

  abbrev y : ℤ
  y = at 3 *ℤ s.args.b

  abbrev z : ℤ
  z = at 4 *ℤ s.args.c

  small : (nat_abs x ≤ 2 ^ 42) × (nat_abs y ≤ 2 ^ 42) × (nat_abs z ≤ 2 ^ 42)
  small = (
    multiple-le (at 2) s.args.a (bounded 2 (lit< tt)) s.requires.1,
    multiple-le (at 3) s.args.b (bounded 3 (lit< tt)) s.requires.2,
    multiple-le (at 4) s.args.c (bounded 4 (lit< tt)) s.requires.3,
  )

  times : SFits w64 x × SFits w64 y × SFits w64 z
  times = (fits_le (2 ^ 42) x small.0 refl, fits_le (2 ^ 42) y small.1 refl, fits_le (2 ^ 42) z small.2 refl)

  all : SFits w64 (at 1 +ℤ x) × SFits w64 (at 1 +ℤ x +ℤ y) × SFits w64 (at 1 +ℤ x +ℤ y +ℤ z) × (nat_abs (at 1 +ℤ x +ℤ y +ℤ z) ≤ 2 ^ 61)
  all = sums (at 1) x y z (bounded 1 (lit< tt)) small.0 small.1 small.2

pub overflow_mul-x : goal.overflow_mul-x
overflow_mul-x c = let d = (goal.at.overflow_mul-x c).Start in simp (to_z-of_z, (fit d).2, c.ranges.a) (times d).0

pub overflow_add-phase : goal.overflow_add-phase
overflow_add-phase c =
    let d = (goal.at.overflow_add-phase c).Start in
    let f = fit d in
    simp (to_z-of_z, f.1, f.2, c.ranges.a, (times d).0) (all d).0

pub overflow_mul-y : goal.overflow_mul-y
overflow_mul-y c = let d = (goal.at.overflow_mul-y c).Start in simp (to_z-of_z, (fit d).3, c.ranges.b) (times d).1

pub overflow_add-phase-2 : goal.overflow_add-phase-2
overflow_add-phase-2 c =
    let d = (goal.at.overflow_add-phase-2 c).Start in
    let f = fit d in
    let t = times d in
    let s = all d in
    simp (to_z-of_z, f.1, f.2, f.3, c.ranges.a, c.ranges.b, t.0, t.1, s.0) s.1

pub overflow_mul-z : goal.overflow_mul-z
overflow_mul-z c = let d = (goal.at.overflow_mul-z c).Start in simp (to_z-of_z, (fit d).4, c.ranges.c) (times d).2

pub overflow_add-phase-3 : goal.overflow_add-phase-3
overflow_add-phase-3 c =
    let d = (goal.at.overflow_add-phase-3 c).Start in
    let f = fit d in
    let t = times d in
    let s = all d in
    simp (to_z-of_z, f.1, f.2, f.3, f.4, c.ranges.a, c.ranges.b, c.ranges.c, t.0, t.1, t.2, s.0, s.1) s.2

pub product-requires : goal.product-requires
product-requires c =
    let d = (goal.at.product-requires c).Start in
    let f = fit d in
    let t = times d in
    let s = all d in
    simp (to_z-of_z, f.0, f.1, f.2, f.3, f.4, c.ranges.a, c.ranges.b, c.ranges.c, t.0, t.1, t.2, s.0, s.1, s.2) (omega (arith, bounded d 0 (lit< tt)), s.3)

pub returns : goal.returns
unfolding steady_angle
returns c =
    let d = (goal.at.returns c).Start in
    let f = fit d in
    let t = times d in
    let s = all d in
    simp (to_z-of_z, ok-fits c.product.result c.product.type_inv)
    (simp (to_z-of_z, f.0, f.1, f.2, f.3, f.4, d.ranges.a, d.ranges.b, d.ranges.c, t.0, t.1, t.2, s.0, s.1, s.2) at c.product.ensures)
