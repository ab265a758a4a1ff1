-- What the short series costs, request 8, for any eight numbers: the two longitudes that they are answered with are no further apart than the bound beside
-- them (of a refusal all are 0). That bound is never more than 227,810 units, 22.781″, and on 2049-12-31, in the last millisecond of a leap second with
-- DUT1 900 and ΔT 120,000, it is as much.
use mathlib.Core.Path.{◌≡◌, refl}
use Prim.Native.Nat.{◌≤◌}
use lib.Dec.{lit≤}
use lib.IntN.{pos}
use Rattle.refusal.proofs.Decisions.{holds-accepted, holds-decided}
use Rattle.exact.specs.Division.{floor_div}
use Rattle.exact.specs.Range.{between}
use Rattle.epoch.specs.Epoch.{millionths}
use Rattle.epoch.proofs.Sizes.{q-size}
use Rattle.calendar.specs.Date.{leap_year, month_length, year_days, month_days, day_count, is_date}
use Rattle.calendar.specs.Time as Time
use Rattle.calendar.specs.Time.{leap_second_day, last_millisecond, is_time, day_millisecond, is_dut1, is_delta_t, since1900, instant, instant_epochs, accepted, instant_tests, instant_of}
use Rattle.calendar.specs.declared.CivilTime.{CivilTime}
use Rattle.calendar.proofs.AcceptedRange.{accepted-in-span}
use Rattle.sun.specs.Longitude.{aberration}
use Rattle.sun.proofs.ShortCost.{short-costs, short-cost-le, short-cost-last}
use Rattle.short_series.specs.Editions.{EditionsValues, refused, compared_at, editions}

abbrev Bounded : EditionsValues → Type 0
Bounded v = v.apart ≤ v.bound

pub apart-within-bound : (t : CivilTime) → Bounded (editions t)
unfolding editions compared_at
apart-within-bound t =
    let e = (instant_epochs t).ephemeris in
    holds-decided Bounded (instant_tests t) (compared_at e) refused (short-costs aberration e) (lit≤ tt, (lit≤ tt, (lit≤ tt, (lit≤ tt, tt))))

abbrev Small : EditionsValues → Type 0
Small v = v.bound ≤ 227_810

pub bound-at-most : (t : CivilTime) → Small (editions t)
unfolding editions compared_at instant_of
bound-at-most t =
    let es = instant_epochs t in
    holds-accepted Small (instant_tests t) (compared_at es.ephemeris) refused (accepted es) Time.refused
    (λ h. short-cost-le es.ephemeris.q (q-size (accepted-in-span t es h).1))
    (lit≤ tt, (lit≤ tt, (lit≤ tt, (lit≤ tt, tt))))

abbrev last : CivilTime
last = record { year = pos 2049; month = pos 12; day = pos 31; hour = pos 23; minute = pos 59; millisecond = pos 60_999; dut1 = pos 900; delta_t = pos 120_000 }

pub bound-reached : ((editions last).refusal ≡ 0) × ((editions last).bound ≡ 227_810)
unfolding editions compared_at instant millionths since1900 day_millisecond is_dut1 is_delta_t is_time last_millisecond leap_second_day is_date day_count month_days year_days month_length leap_year between floor_div
bound-reached = (refl, short-cost-last)
