-- What a caller may rely on beyond the definitions (RULES.md, "The sine", demand 3): a sine is near the polynomial, and a sine and a cosine of one angle
-- are near the circle.
use Rattle.std.specs.Prelude.{◌≡◌, ℕ, ◌+◌, ◌-◌, ◌*◌, ◌≤◌, ℤ, pos, nat_abs, ◌-ℤ◌, ◌*ℤ◌}
use Rattle.sine_table.specs.SinePolynomial.{poly_den}
use Rattle.sine_table.specs.Table.{R}
use Rattle.sine.specs.Sine.{Sin, poly_at}

-- demand 3, first half: the most that Sin and R·P may differ, in units of 1/R. They do by 11.556 where they differ most, so 11 is false; the law of
-- proofs/SineBound.antt would prove 19 and nothing less.
abbrev pub sine_tolerance : ℕ
sine_tolerance = 30

-- of a number r that is given out as the sine of a: it is Sin(a), at most R in magnitude, and at most `sine_tolerance` from R·P(a), both times poly_den
pub record IsSine (a : ℕ) (r : ℤ) : Type 0 where
  pub value : r ≡ Sin a
  pub range : nat_abs r ≤ R
  pub near : nat_abs (r *ℤ pos poly_den -ℤ pos R *ℤ poly_at a) ≤ sine_tolerance * poly_den

-- how small and how large Sin² + Cos² can be. Its extremes are R² − 23.725·R and R² + 2.601·R, and the law of proofs/Pythagoras.antt has little room.
abbrev pub circle_least : ℕ
circle_least = R * R - 23_880_000_000

abbrev pub circle_most : ℕ
circle_most = R * R + 2_704_000_000

-- of a sine and a cosine of one angle, without their signs
pub record OnCircle (x y : ℕ) : Type 0 where
  pub least : circle_least ≤ x * x + y * y
  pub most : x * x + y * y ≤ circle_most
