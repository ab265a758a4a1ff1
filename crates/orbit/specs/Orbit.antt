-- Document 02, request 9 (RULES.md, "The radius vector"): how far the Sun is by the ellipse alone, in units of 10^−9 of the mean distance, and the
-- aberration in longitude that this gives.
use Rattle.std.specs.Prelude.{List, ℕ, ◌*◌, ◌^◌, ℤ, pos, nat_abs, ◌+ℤ◌, ◌-ℤ◌, ◌*ℤ◌, get_or}
use Rattle.exact.specs.Decimal.{Decimal, plus, minus, in_units, arc_seconds}
use Rattle.exact.specs.Division.{nearest_div}
use Rattle.exact.specs.Reduction.{reduced}
use Rattle.secular.specs.FlooredPolynomial.{polynomial, value}
use Rattle.sine_table.specs.Table.{R}
use Rattle.sine.specs.Sine.{Cos}
use Rattle.epoch.specs.Epoch.{Epoch}
use Rattle.arguments.specs.PrintedArguments.{Ms, arguments_of}
use Rattle.sun.specs.Longitude.{equation_of_centre}

-- v: the Sun's mean anomaly and the equation of the centre, reduced
unfoldable pub true_anomaly : List ℤ → ℤ → ℕ
true_anomaly arguments q = reduced (get_or arguments Ms (pos 0) +ℤ equation_of_centre arguments q)

-- e, as source 004 prints it, at q
abbrev parts : Decimal → ℤ
parts = in_units R

unfoldable pub eccentricity : ℤ → ℤ
eccentricity q = value (polynomial (parts (plus 1_675_104 8)) (parts (minus 418 7)) (parts (minus 126 9)) (10 ^ 12)) q

-- r of an eccentricity and the cosine of an anomaly: (R² − e²) / (R + e·Cos(v) / R), each quotient to nearest. Divisor and quotient are positive (laws
-- `divisor_range`, `radius-range`)
unfoldable pub radius_by : ℤ → ℤ → ℕ
radius_by e cosine = nat_abs (nearest_div (pos (R * R) -ℤ e *ℤ e) (nat_abs (pos R +ℤ nearest_div (e *ℤ cosine) R)))

-- r at an epoch
unfoldable pub radius_vector : Epoch → ℕ
radius_vector e = radius_by (eccentricity e.q) (Cos (true_anomaly (arguments_of e) e.q))

-- what is c at the mean distance, at the distance r: c·R / r, to nearest
abbrev pub at_distance : ℤ → ℕ → ℤ
at_distance c r = nearest_div (c *ℤ pos R) r

-- the aberration in longitude, in units of 0.0001″: 20.496″ at the mean distance (001, section 2.4)
unfoldable pub aberration : ℕ → ℤ
aberration r = at_distance (arc_seconds (plus 20_496 3)) r
