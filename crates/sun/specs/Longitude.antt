-- Document 01, "The Sun" (RULES.md, "The Sun"): the apparent longitude s, the polynomial longitude beside it, and the angle g of "Polaris", in units.
use Rattle.std.specs.Prelude.{◌≡◌, List, ℕ, ◌≤◌, ◌<◌, ℤ, pos, ◌+ℤ◌, ◌-ℤ◌, get_or}
use Rattle.exact.specs.Reduction.{turn, reduced, short_way}
use Rattle.exact.specs.Decimal.{plus, arc_seconds}
use Rattle.epoch.specs.Epoch.{Epoch}
use Rattle.arguments.specs.PrintedArguments.{L}
use Rattle.series.specs.Term.{Term}
use Rattle.series.specs.Sum.{table_sum, polynomial_sum}
use Rattle.frame.specs.Nutation.{dpsi, dpsi_terms}
use Rattle.sun.specs.Series.{centre}
use Rattle.sun.specs.Editions.{terms_of, arguments_for}
use Rattle.sun.specs.Tolerance.{longitude_tolerance}

abbrev pub mean_longitude : List ℤ → ℤ
mean_longitude arguments = get_or arguments L (pos 0)

-- the constant of aberration, in units
unfoldable pub aberration : ℤ
aberration = arc_seconds (plus 20_496 3)

-- 01's first sum, by an edition at an epoch: all its terms are rounded together
unfoldable pub first_sum : ℤ → Epoch → ℤ
first_sum edition e = table_sum (arguments_for edition e) e.q (terms_of edition)

-- L, the sum of any list of terms and Δψ, less the aberration, reduced
unfoldable pub longitude_by : List Term → ℤ → List ℤ → ℤ → ℕ
longitude_by terms aberration arguments q = reduced (mean_longitude arguments +ℤ table_sum arguments q terms +ℤ dpsi arguments q -ℤ aberration)

-- the same with R·P for the sine, in the first sum and in Δψ
unfoldable pub polynomial_by : List Term → ℤ → List ℤ → ℤ → ℕ
polynomial_by terms aberration arguments q =
    reduced (mean_longitude arguments +ℤ polynomial_sum arguments q terms +ℤ polynomial_sum arguments q dpsi_terms -ℤ aberration)

-- 01's s and its polynomial longitude, by an edition at an epoch
unfoldable pub apparent_longitude : ℤ → ℤ → Epoch → ℕ
apparent_longitude edition aberration e = longitude_by (terms_of edition) aberration (arguments_for edition e) e.q

unfoldable pub polynomial_longitude : ℤ → ℤ → Epoch → ℕ
polynomial_longitude edition aberration e = polynomial_by (terms_of edition) aberration (arguments_for edition e) e.q

-- the centre terms alone, rounded as the first sum is
unfoldable pub equation_of_centre : List ℤ → ℤ → ℤ
equation_of_centre arguments q = table_sum arguments q centre

-- 01's g
unfoldable pub centre_longitude : List ℤ → ℤ → ℕ
centre_longitude arguments q = reduced (mean_longitude arguments +ℤ equation_of_centre arguments q)

-- what is owed of a number r that is given out as the apparent longitude: it is s, reduced, and demand 3 holds of it
pub record IsLongitude (edition aberration : ℤ) (e : Epoch) (r : ℕ) : Type 0 where
  pub value : r ≡ apparent_longitude edition aberration e
  pub range : r < turn
  pub near : short_way r (polynomial_longitude edition aberration e) ≤ longitude_tolerance edition
