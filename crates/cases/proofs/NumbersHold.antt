-- The numbers are those that are stated: one equation of two lists. antt computes the days, the instants and the sines; an angle is the largest that
-- passes, which two tests show.
use mathlib.Core.Path.{◌≡◌, refl}
use lib.Dec.{lit<}
use Rattle.exact.specs.Reduction.{rest, reduced}
use Rattle.exact.specs.Division.{floor_div, nearest_div_ℕ}
use Rattle.exact.specs.Range.{between}
use Rattle.sine_table.specs.SinePolynomial.{arc, whole, poly_den, cofactor, term, poly_num}
use Rattle.sine_table.specs.Table.{entry_by}
use Rattle.sine.specs.Sine.{sin_quadrant, Sin, Cos}
use Rattle.vector_angle.specs.VectorAngle.{passes, quadrant_angle, angle}
use Rattle.vector_angle.proofs.Passing.{quadrant-angle-is}
use Rattle.epoch.specs.Epoch.{millionths}
use Rattle.calendar.specs.Date.{leap_year, month_length, year_days, month_days, day_count, is_date}
use Rattle.calendar.specs.Time.{leap_second_day, last_millisecond, is_time, day_millisecond, is_dut1, is_delta_t, since1900, instant, instant_of}
use Rattle.cases.specs.WorkedNumbers.{given, stated}

-- the two angles of the first quadrant: each passes, and the next fails
east : quadrant_angle 1 0 ≡ 1
unfolding passes Sin Cos sin_quadrant entry_by nearest_div_ℕ poly_num poly_den term cofactor arc whole reduced rest floor_div
east = quadrant-angle-is 1 0 1 (lit< tt) refl (λ h. refl)

diagonal : quadrant_angle 1 1 ≡ 1_620_000_001
unfolding passes Sin Cos sin_quadrant entry_by nearest_div_ℕ poly_num poly_den term cofactor arc whole reduced rest floor_div
diagonal = quadrant-angle-is 1 1 1_620_000_001 (lit< tt) refl (λ h. refl)

pub numbers-hold : given ≡ stated
unfolding leap_year month_length year_days month_days day_count is_date leap_second_day last_millisecond is_time day_millisecond is_dut1 is_delta_t since1900 instant millionths instant_of between floor_div Sin sin_quadrant entry_by nearest_div_ℕ poly_num poly_den term cofactor arc whole angle
numbers-hold = rw (east, diagonal)
