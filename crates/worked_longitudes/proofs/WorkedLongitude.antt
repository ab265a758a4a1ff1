-- Lines of the outside vectors, computed from the definitions: the polynomial longitude of an instant with ΔT, by either edition, from its eight numbers
-- on, with every fraction exact. This tests the definition, which no function computes. The lines are of the largest distance from s in those vectors,
-- one unit, to either side.
use mathlib.Core.Path.{◌≡◌, refl}
use Prim.Native.Nat.{ℕ}
use lib.IntN.{ℤ, pos, neg_ℤ}
use Rattle.exact.specs.Reduction.{rest, reduced}
use Rattle.exact.specs.Division.{floor_div, nearest_div}
use Rattle.secular.specs.FlooredPolynomial as secular
use Rattle.sine_table.specs.SinePolynomial.{arc, whole, poly_den, cofactor, term, poly_num}
use Rattle.sine.specs.Sine.{poly_at}
use Rattle.epoch.specs.Epoch.{millionths}
use Rattle.epoch.specs.Epoch.{Epoch}
use Rattle.calendar.specs.Date.{leap_year, year_days, month_days, day_count}
use Rattle.calendar.specs.Time.{day_millisecond, since1900, instant, instant_epochs}
use Rattle.arguments.specs.Argument.{argument}
use Rattle.arguments.specs.PrintedArguments.{rows, further_rows, arguments_of, full_arguments_of}
use Rattle.series.specs.Term.{angle_of, value}
use Rattle.series.specs.Sum.{total, polynomial_sum}
use Rattle.sun.specs.Series.{short_terms, full_terms}
use Rattle.sun.specs.Longitude.{aberration, polynomial_by}
use Rattle.worked_longitudes.proofs.FarthestKnown.{civil}

-- the ephemeris epoch of fields 1 to 7 and 11, and the polynomial longitude there by the short edition and by the full one (laws `short-longitudes`,
-- `full-longitudes`)
abbrev at : ℕ → ℕ → ℕ → ℕ → ℕ → ℕ → ℤ → ℕ → Epoch
at year month day hour minute millisecond dut1 delta_t = (instant_epochs (civil year month day hour minute millisecond dut1 delta_t)).ephemeris

abbrev short : Epoch → ℕ
short e = polynomial_by short_terms aberration (arguments_of e) e.q

abbrev full : Epoch → ℕ
full e = polynomial_by full_terms aberration (full_arguments_of e) e.q

-- s is 11398846525
year-1993 : short (at 1993 2 5 10 19 24_559 (pos 900) 120_000) ≡ 11_398_846_526
unfolding instant since1900 day_millisecond day_count year_days month_days leap_year millionths polynomial_by aberration polynomial_sum total value secular.value angle_of arguments_of rows argument rest reduced floor_div nearest_div arc whole poly_den cofactor term poly_num poly_at
year-1993 = refl

-- s is 7922931293
year-2044 : short (at 2044 11 1 20 48 4_106 (pos 211) 84_310) ≡ 7_922_931_292
unfolding instant since1900 day_millisecond day_count year_days month_days leap_year millionths polynomial_by aberration polynomial_sum total value secular.value angle_of arguments_of rows argument rest reduced floor_div nearest_div arc whole poly_den cofactor term poly_num poly_at
year-2044 = refl

-- s is 4089519055
year-2015 : short (at 2015 7 16 10 28 59_077 (neg_ℤ (pos 900)) 61_694) ≡ 4_089_519_054
unfolding instant since1900 day_millisecond day_count year_days month_days leap_year millionths polynomial_by aberration polynomial_sum total value secular.value angle_of arguments_of rows argument rest reduced floor_div nearest_div arc whole poly_den cofactor term poly_num poly_at
year-2015 = refl

-- ---- the full edition
-- s is 641524757
full-1998 : full (at 1998 4 7 20 33 32_295 (pos 892) 0) ≡ 641_524_758
unfolding instant since1900 day_millisecond day_count year_days month_days leap_year millionths polynomial_by aberration polynomial_sum total value secular.value angle_of arguments_of full_arguments_of rows further_rows argument rest reduced floor_div nearest_div arc whole poly_den cofactor term poly_num poly_at
full-1998 = refl

-- s is 1329638802
full-1981 : full (at 1981 4 27 7 8 39_853 (neg_ℤ (pos 891)) 120_000) ≡ 1_329_638_803
unfolding instant since1900 day_millisecond day_count year_days month_days leap_year millionths polynomial_by aberration polynomial_sum total value secular.value angle_of arguments_of full_arguments_of rows further_rows argument rest reduced floor_div nearest_div arc whole poly_den cofactor term poly_num poly_at
full-1981 = refl

-- s is 7142287350
full-1986 : full (at 1986 10 12 0 37 4_680 (pos 0) 0) ≡ 7_142_287_349
unfolding instant since1900 day_millisecond day_count year_days month_days leap_year millionths polynomial_by aberration polynomial_sum total value secular.value angle_of arguments_of full_arguments_of rows further_rows argument rest reduced floor_div nearest_div arc whole poly_den cofactor term poly_num poly_at
full-1986 = refl
