-- Document 01, "The Sun" (RULES.md, "The Sun", `sum`), for any list of terms: their values are added exactly, and the whole is divided by R once, to
-- nearest.
use Rattle.std.specs.Prelude.{List, [], ◌∷◌, ℕ, ◌+◌, ◌*◌, ℤ, pos, nat_abs, ◌+ℤ◌, ◌*ℤ◌}
use Rattle.exact.specs.Division.{nearest_div}
use Rattle.sine_table.specs.SinePolynomial.{poly_den}
use Rattle.sine_table.specs.Table.{R}
use Rattle.sine.specs.Sine.{Sin, poly_at}
use Rattle.series.specs.Term.{Term, amplitude_of, value, weight}

-- the exact sum, with a function f for the sine
unfoldable pub total : (ℕ → ℤ) → List ℤ → ℤ → List Term → ℤ
total f arguments q [] = pos 0
total f arguments q (t ∷ ts) = value f arguments q t +ℤ total f arguments q ts

-- the sum with the table sine, in units
unfoldable pub table_sum : List ℤ → ℤ → List Term → ℤ
table_sum arguments q terms = nearest_div (total Sin arguments q terms) R

-- R·P(a) is the fraction with the numerator R·poly_at a over poly_den
abbrev pub scaled_p : ℕ → ℤ
scaled_p a = pos R *ℤ poly_at a

-- the sum with R·P for the sine, each product an exact fraction, in units
unfoldable pub polynomial_sum : List ℤ → ℤ → List Term → ℤ
polynomial_sum arguments q terms = nearest_div (total scaled_p arguments q terms) (R * poly_den)

-- the sum of the amplitudes at q, each without its sign
unfoldable pub amplitudes : List Term → ℤ → ℕ
amplitudes [] q = 0
amplitudes (t ∷ ts) q = nat_abs (amplitude_of t q) + amplitudes ts q

-- the most that this can be at an accepted instant, by a simple estimate
unfoldable pub weights : List Term → ℕ
weights [] = 0
weights (t ∷ ts) = weight t + weights ts
