-- Document 01, "Polaris" (RULES.md, "Polaris"): what changes with p, the millionths of a tropical century since 1975.0, as the sources print it.
use Rattle.std.specs.Prelude.{◌+◌, ◌-◌, ◌*◌, ◌^◌, pos}
use Rattle.exact.specs.Decimal.{plus, minus, hours, degrees, arc_seconds}
use Rattle.secular.specs.FlooredPolynomial.{polynomial}
use Rattle.secular.specs.declared.Polynomial.{Polynomial}

-- the position in the FK4 at 1975.0, its proper motion of a century, and the change of that motion, of which half counts (001 section 3.1)
unfoldable pub right_ascension : Polynomial
right_ascension = polynomial (hours (plus 21_240_378 7)) (hours (plus 56_894 7)) (hours (plus 28_261 7)) (2 * 10 ^ 12)

unfoldable pub declination : Polynomial
declination = polynomial (degrees (plus 891_499_556 7)) (degrees (minus 2_167 7)) (degrees (minus 4_389 7)) (2 * 10 ^ 12)

-- ζ, what z has beyond it, and θ (004); with T0 = 0.75 the rates of ζ and θ are 2304.250″ + 1.396″·T0 and 2004.682″ − 0.853″·T0 a century
unfoldable pub zeta : Polynomial
zeta = polynomial (pos 0) (arc_seconds (plus (230_425_000 + 75 * 1_396) 5)) (arc_seconds (plus 302 3)) (10 ^ 12)

unfoldable pub z_less_zeta : Polynomial
z_less_zeta = polynomial (pos 0) (pos 0) (arc_seconds (plus 791 3)) (10 ^ 12)

unfoldable pub theta : Polynomial
theta = polynomial (pos 0) (arc_seconds (plus (200_468_200 - 75 * 853) 5)) (arc_seconds (minus 426 3)) (10 ^ 12)
