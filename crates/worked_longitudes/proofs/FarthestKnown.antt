-- The farthest apart that is known: on 1994-03-22 at 13:19:32.701 UTC, with DUT1 and ΔT 0, the apparent longitude and the polynomial longitude of the short
-- edition are 2 units apart, and on 1996-04-10 at 5:42:05.618 those of the full one; so no bound below 2 units holds for every accepted instant, of either.
-- The checker works the longitudes from the definitions, every fraction exact. The instants were found by search. That no other is farther is not proved:
-- a calculation outside the checker says so, as a sine is at most 11.556 off, which moves each of the two sums by less than a unit.
use mathlib.Core.Path.{◌≡◌, refl, ap₂, subst, ◌∙◌}
use Prim.Native.Nat.{ℕ, ◌≤◌}
use lib.IntN.{ℤ, pos}
use Rattle.exact.specs.Reduction.{rest, reduced, short_way}
use Rattle.exact.specs.Division.{floor_div, nearest_div, nearest_div_ℕ}
use Rattle.exact.specs.Range.{between}
use Rattle.secular.specs.FlooredPolynomial as secular
use Rattle.sine_table.specs.SinePolynomial.{arc, whole, poly_den, cofactor, term, poly_num}
use Rattle.sine_table.specs.Table.{entry_by}
use Rattle.sine.specs.Sine.{poly_at, sin_quadrant, Sin}
use Rattle.epoch.specs.Epoch.{millionths, epoch}
use Rattle.epoch.specs.Epoch.{Epoch}
use Rattle.calendar.specs.Date.{leap_year, month_length, year_days, month_days, day_count, is_date}
use Rattle.calendar.specs.Time.{leap_second_day, last_millisecond, is_time, day_millisecond, is_dut1, is_delta_t, since1900, instant, instant_of, accepted}
use Rattle.calendar.specs.declared.CivilTime.{CivilTime}
use Rattle.calendar.specs.declared.Epochs.{Epochs}
use Rattle.arguments.specs.Argument.{argument}
use Rattle.arguments.specs.PrintedArguments.{rows, further_rows, arguments_of, full_arguments_of}
use Rattle.series.specs.Term.{angle_of, value}
use Rattle.series.specs.Sum.{total, table_sum, polynomial_sum}
use Rattle.frame.specs.Nutation.{dpsi}
use Rattle.sun.specs.Series.{short_terms, full_terms}
use Rattle.sun.specs.Longitude.{aberration, longitude_by, polynomial_by}
use Rattle.sun.proofs.Editions.{short-longitudes, full-longitudes}
use Rattle.worked_longitudes.proofs.TwoApart.{both, distance, TwoApart}

-- fields 1 to 7 and 11 of an instant
abbrev pub civil : ℕ → ℕ → ℕ → ℕ → ℕ → ℕ → ℤ → ℕ → CivilTime
civil year month day hour minute millisecond dut1 delta_t = record {
  year = pos year;
  month = pos month;
  day = pos day;
  hour = pos hour;
  minute = pos minute;
  millisecond = pos millisecond;
  dut1 = dut1;
  delta_t = pos delta_t;
}

abbrev pub march1994 : CivilTime
march1994 = civil 1994 3 22 13 19 32_701 (pos 0) 0

abbrev pub epoch1994 : Epoch
epoch1994 = epoch (pos 2_973_374_372_701) (pos 942_205)

abbrev pub april1996 : CivilTime
april1996 = civil 1996 4 10 5 42 5_618 (pos 0) 0

abbrev pub epoch1996 : Epoch
epoch1996 = epoch (pos 3_038_146_925_618) (pos 962_730)

-- ---- both instants are accepted
accepted-1994 : instant_of march1994 ≡ accepted (both epoch1994)
unfolding instant_of instant millionths since1900 day_millisecond is_dut1 is_delta_t is_time last_millisecond leap_second_day is_date day_count month_days year_days month_length leap_year between floor_div
accepted-1994 = refl

accepted-1996 : instant_of april1996 ≡ accepted (both epoch1996)
unfolding instant_of instant millionths since1900 day_millisecond is_dut1 is_delta_t is_time last_millisecond leap_second_day is_date day_count month_days year_days month_length leap_year between floor_div
accepted-1996 = refl

-- ---- their longitudes, by the lists of terms
apparent-1994 : longitude_by short_terms aberration (arguments_of epoch1994) epoch1994.q ≡ 60_803_640
unfolding longitude_by aberration dpsi table_sum total value secular.value angle_of arguments_of rows argument rest reduced floor_div nearest_div nearest_div_ℕ arc whole poly_den cofactor term poly_num Sin sin_quadrant entry_by
apparent-1994 = refl

polynomial-1994 : polynomial_by short_terms aberration (arguments_of epoch1994) epoch1994.q ≡ 60_803_642
unfolding polynomial_by aberration polynomial_sum total value secular.value angle_of arguments_of rows argument rest reduced floor_div nearest_div arc whole poly_den cofactor term poly_num poly_at
polynomial-1994 = refl

apparent-1996 : longitude_by full_terms aberration (full_arguments_of epoch1996) epoch1996.q ≡ 742_947_216
unfolding longitude_by aberration dpsi table_sum total value secular.value angle_of arguments_of full_arguments_of rows further_rows argument rest reduced floor_div nearest_div nearest_div_ℕ arc whole poly_den cofactor term poly_num Sin sin_quadrant entry_by
apparent-1996 = refl

polynomial-1996 : polynomial_by full_terms aberration (full_arguments_of epoch1996) epoch1996.q ≡ 742_947_218
unfolding polynomial_by aberration polynomial_sum total value secular.value angle_of arguments_of full_arguments_of rows further_rows argument rest reduced floor_div nearest_div arc whole poly_den cofactor term poly_num poly_at
polynomial-1996 = refl

-- ---- the theorems
pub two-apart : TwoApart (pos 1) march1994 epoch1994 60_803_640 60_803_642
unfolding short_way
two-apart =
    let l = short-longitudes aberration epoch1994 in
    let s = l.0 ∙ apparent-1994 in
    let p = l.1 ∙ polynomial-1994 in
    (accepted-1994, s, p, ap₂ short_way s p)

pub full-two-apart : TwoApart (pos 2) april1996 epoch1996 742_947_216 742_947_218
unfolding short_way
full-two-apart =
    let l = full-longitudes aberration epoch1996 in
    let s = l.0 ∙ apparent-1996 in
    let p = l.1 ∙ polynomial-1996 in
    (accepted-1996, s, p, ap₂ short_way s p)

-- and so whatever bounds the distance at every accepted instant is at least 2, by either edition
pub no-lower-bound : (bound : ℤ → ℕ)
    → ((edition : ℤ) (t : CivilTime) (es : Epochs) → instant_of t ≡ accepted es → distance edition es.ephemeris ≤ bound edition)
    → (2 ≤ bound (pos 1)) × (2 ≤ bound (pos 2))
no-lower-bound bound holds = (
  subst (λ d. d ≤ bound (pos 1)) two-apart.3 (holds (pos 1) march1994 (both epoch1994) accepted-1994),
  subst (λ d. d ≤ bound (pos 2)) full-two-apart.3 (holds (pos 2) april1996 (both epoch1996) accepted-1996),
)
