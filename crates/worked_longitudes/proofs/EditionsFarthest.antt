-- The farthest apart that the two editions are known to be, request 8: on 2020-03-22 at 6:30 UTC, with DUT1 and ΔT 0, by 157,299 units, 15.7299″, where
-- 227,763 bound it. The checker works both longitudes from the definitions. The instant was found by a search over every accepted one, which is no proof
-- that no other is farther. It shows that the bound counts no term for nothing that it could do without: less Jupiter's largest term it is 155,683 there,
-- which is passed (`jupiter-counts`).
use mathlib.Core.Path.{◌≡◌, refl, ◌∙◌}
use Prim.Native.Nat.{ℕ, ◌<◌}
use lib.Dec.{lit<}
use lib.IntN.{pos}
use Rattle.exact.specs.Decimal.{plus}
use Rattle.exact.specs.Division.{floor_div, nearest_div, nearest_div_ℕ}
use Rattle.exact.specs.Range.{between}
use Rattle.exact.specs.Reduction.{rest, reduced, short_way}
use Rattle.secular.specs.FlooredPolynomial as secular
use Rattle.sine_table.specs.SinePolynomial.{arc, whole, poly_den, cofactor, term, poly_num}
use Rattle.sine_table.specs.Table.{entry_by}
use Rattle.sine.specs.Sine.{sin_quadrant, Sin}
use Rattle.epoch.specs.Epoch.{millionths, epoch}
use Rattle.epoch.specs.Epoch.{Epoch}
use Rattle.calendar.specs.Date.{leap_year, month_length, year_days, month_days, day_count, is_date}
use Rattle.calendar.specs.Time.{leap_second_day, last_millisecond, is_time, day_millisecond, is_dut1, is_delta_t, since1900, instant}
use Rattle.calendar.specs.declared.CivilTime.{CivilTime}
use Rattle.arguments.specs.Argument.{argument}
use Rattle.arguments.specs.PrintedArguments.{Ms, Jupiter, rows, further_rows, arguments_of, full_arguments_of}
use Rattle.series.specs.Term.{Term, angle_of, value}
use Rattle.series.specs.Sum.{total, table_sum}
use Rattle.series.specs.Notation as Notation
use Rattle.series.specs.Compared.{same_angle, same_amplitude, counterpart, others, changes, costs, dropped}
use Rattle.frame.specs.Nutation.{dpsi}
use Rattle.sun.specs.Series.{short_terms, full_terms}
use Rattle.sun.specs.ShortCost.{short_cost}
use Rattle.sun.specs.Longitude.{aberration, longitude_by}
use Rattle.sun.proofs.Editions.{short-longitudes, full-longitudes}
use Rattle.short_series.specs.Editions.{EditionsValues, compared_at, editions}
use Rattle.worked_longitudes.proofs.FarthestKnown.{civil}

abbrev march2020 : CivilTime
march2020 = civil 2020 3 22 6 30 0 (pos 0) 0

abbrev epoch2020 : Epoch
epoch2020 = epoch (pos 3_793_890_600_000) (pos 1_202_211)

short-2020 : longitude_by short_terms aberration (arguments_of epoch2020) epoch2020.q ≡ 75_308_836
unfolding longitude_by aberration dpsi table_sum total value secular.value angle_of arguments_of rows argument rest reduced floor_div nearest_div nearest_div_ℕ arc whole poly_den cofactor term poly_num Sin sin_quadrant entry_by
short-2020 = refl

full-2020 : longitude_by full_terms aberration (full_arguments_of epoch2020) epoch2020.q ≡ 75_466_135
unfolding longitude_by aberration dpsi table_sum total value secular.value angle_of arguments_of full_arguments_of rows further_rows argument rest reduced floor_div nearest_div nearest_div_ℕ arc whole poly_den cofactor term poly_num Sin sin_quadrant entry_by
full-2020 = refl

abbrev worked : ℕ → ℕ → EditionsValues
worked short full = record { refusal = 0; short = short; full = full; apart = short_way short full; bound = 227_763 }

bound-2020 : short_cost epoch2020.q ≡ 227_763
unfolding short_cost changes counterpart others same_angle same_amplitude costs secular.value nearest_div floor_div
bound-2020 = refl

compared-2020 : compared_at epoch2020 ≡ worked 75_308_836 75_466_135
unfolding compared_at
compared-2020 =
    rw ((short-longitudes aberration epoch2020).0 ∙ short-2020, (full-longitudes aberration epoch2020).0 ∙ full-2020, bound-2020) refl

-- the eight numbers are answered so
answered : editions march2020 ≡ worked 75_308_836 75_466_135
unfolding editions instant millionths since1900 day_millisecond is_dut1 is_delta_t is_time last_millisecond leap_second_day is_date day_count month_days year_days month_length leap_year between floor_div
answered = compared-2020

pub farthest-known : editions march2020 ≡ record { refusal = 0; short = 75_308_836; full = 75_466_135; apart = 157_299; bound = 227_763 }
unfolding short_way
farthest-known = answered

-- what the short edition drops of the full one without Jupiter's largest term, 7.208″
abbrev jupiter_largest : Term
jupiter_largest = Notation.cosine (plus 7_208 3) (plus 179_532 3) (Notation.less 1 Jupiter) (Notation.added 1 Ms) Notation.none

pub jupiter-counts : (dropped short_terms (others jupiter_largest full_terms) epoch2020.q ≡ 155_683) × (155_683 < (editions march2020).apart)
unfolding short_way changes counterpart others same_angle same_amplitude costs secular.value nearest_div floor_div
jupiter-counts = (refl, rw answered (lit< tt))
