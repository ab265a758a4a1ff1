-- Document 01, "Time", "The Sun" and "Polaris" (RULES.md, "Time"): the floored polynomial, the one shape of what varies slowly. It has the tail of an
-- argument, an amplitude, the position of Polaris and its precession.
use Rattle.std.specs.Prelude.{ℕ, ◌^◌, ℤ, pos, nat_abs, ◌+ℤ◌, ◌*ℤ◌}
use Rattle.exact.specs.Division.{floor_div}
use Rattle.secular.specs.declared.Polynomial.{Polynomial}

abbrev pub polynomial : ℤ → ℤ → ℤ → ℕ → Polynomial
polynomial c0 c1 c2 d = record { c0 = c0; c1 = c1; c2 = c2; divisor = pos d }

-- each quotient is rounded down by itself
unfoldable pub value : Polynomial → ℤ → ℤ
value c x = c.c0 +ℤ floor_div (c.c1 *ℤ x) (10 ^ 6) +ℤ floor_div (c.c2 *ℤ (x *ℤ x)) (nat_abs c.divisor)
