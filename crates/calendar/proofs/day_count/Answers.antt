-- The three sums are `day_count`'s.
use mathlib.Core.Path.{◌≡◌, ap, ap₂, ◌∙◌}
use Prim.Native.Nat.{ℕ, ◌+◌, ◌-◌, ◌≤◌}
use native.Mathlib.Omega.{arith}
use lib.IntN.{nat_abs}
use lib.ListN.{take}
use mir.Facts.{to_z-of_z}
use Rattle.calendar.specs.Date.{leap_year, months, total, month_days, year_days, day_count}
use Rattle.calendar.proofs.AcceptedRange.{month-range}
use Rattle.calendar.proofs.day_count.Goals.{After-magnitude, After-magnitude-m, Start}
use Rattle.calendar.proofs.day_count.Goals as goal

module _ (c : After-magnitude-m) where
  abbrev start : Start
  start = c.before.before

  y-is : c.before.magnitude-y.result ≡ nat_abs start.args.year
  y-is = simp (to_z-of_z, start.ranges.year) at c.before.magnitude-y.ensures

  m-is : c.magnitude-m.result ≡ nat_abs start.args.month
  m-is = simp (to_z-of_z, start.ranges.month) at c.magnitude-m.ensures

  range : ((1976 ≤ c.before.magnitude-y.result) × (c.before.magnitude-y.result ≤ 2049)) × (1 ≤ c.magnitude-m.result) × (c.magnitude-m.result ≤ 12)
  range = omega (arith, y-is, m-is, month-range start.args.year start.args.month start.args.day start.requires)

module _ (c : After-magnitude) where
  abbrev two : After-magnitude-m
  two = c.before.before.before.before

  d-is : c.magnitude.result ≡ nat_abs (start two).args.day
  d-is = simp (to_z-of_z, (start two).ranges.day) at c.magnitude.ensures

pub overflow_sub-y : goal.overflow_sub-y
overflow_sub-y c = omega (arith, range c)

pub year_days-requires : goal.year_days-requires
year_days-requires c = omega (arith, range c)

pub overflow_sub-m : goal.overflow_sub-m
overflow_sub-m c = (range c.before).1

pub days_before-requires : goal.days_before-requires
days_before-requires c = omega (arith, range c.before.before)

pub returns : goal.returns
unfolding day_count month_days
returns c =
    let b = c.before in
    let y = b.before.before.year_days.ensures.0 ∙ ap (λ (n : ℕ). year_days (n - 1900)) (y-is (two c)) in
    let leap = b.before.leap_year.ensures ∙ ap leap_year (y-is (two c)) in
    let m = b.days_before.ensures.0 ∙ ap₂ (λ n l. total (take (n - 1) (months l))) (m-is (two c)) leap in
    ap₂ ◌+◌ (ap₂ ◌+◌ y m) (d-is c)
