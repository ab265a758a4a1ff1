-- What request 7's bound is computed from is the largest sum over the accepted instants, and no upper estimate: at the first accepted instant, 1976-01-01
-- 0h with DUT1 −900 and ΔT 0, the amplitudes of the full edition and of Δψ, without their signs, add up to 70,447,118 units, and at no accepted instant
-- to more.
use mathlib.Core.Path.{◌≡◌, refl}
use Prim.Native.Nat.{ℕ, ◌≤◌}
use lib.IntN.{pos, neg_ℤ}
use Rattle.exact.specs.Division.{floor_div, nearest_div}
use Rattle.exact.specs.Range.{between}
use Rattle.secular.specs.FlooredPolynomial as secular
use Rattle.epoch.specs.Epoch.{millionths, epoch, first_millionth}
use Rattle.epoch.proofs.Sizes.{q-range}
use Rattle.calendar.specs.Date.{leap_year, month_length, year_days, month_days, day_count, is_date}
use Rattle.calendar.specs.Time.{leap_second_day, last_millisecond, is_time, day_millisecond, is_dut1, is_delta_t, since1900, instant, instant_of, accepted}
use Rattle.calendar.specs.declared.CivilTime.{CivilTime}
use Rattle.calendar.specs.declared.Epochs.{Epochs}
use Rattle.calendar.proofs.AcceptedRange.{accepted-in-span}
use Rattle.series.specs.Sum.{amplitudes}
use Rattle.sun.specs.Tolerance.{largest_sum}
use Rattle.sun.proofs.EditionBound.{full_and_dpsi, sum-le-largest, largest-is}

abbrev january1976 : CivilTime
january1976 = record { year = pos 1976; month = pos 1; day = pos 1; hour = pos 0; minute = pos 0; millisecond = pos 0; dut1 = neg_ℤ (pos 900); delta_t = pos 0 }

abbrev epochs1976 : Epochs
epochs1976 = let e = epoch (pos 2_398_334_399_100) (pos first_millionth) in record { universal = e; ephemeris = e }

is-accepted : instant_of january1976 ≡ accepted epochs1976
unfolding instant_of instant millionths since1900 day_millisecond is_dut1 is_delta_t is_time last_millisecond leap_second_day is_date day_count month_days year_days month_length leap_year between floor_div
is-accepted = refl

-- the sum of the amplitudes at an accepted instant
abbrev sum_at : Epochs → ℕ
sum_at es = amplitudes full_and_dpsi es.ephemeris.q

sum_is : sum_at epochs1976 ≡ 70_447_118
unfolding amplitudes secular.value nearest_div floor_div
sum_is = refl

-- the theorem: the largest sum is that of an accepted instant, and that of every other is at most it
pub largest-of-all : (largest_sum full_and_dpsi ≡ 70_447_118) × (instant_of january1976 ≡ accepted epochs1976) × (sum_at epochs1976 ≡ 70_447_118)
    × ((t : CivilTime) (es : Epochs) → instant_of t ≡ accepted es → sum_at es ≤ largest_sum full_and_dpsi)
largest-of-all = (largest-is, is-accepted, sum_is, λ t es h. sum-le-largest full_and_dpsi es.ephemeris.q (q-range (accepted-in-span t es h).1))
