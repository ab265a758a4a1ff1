-- Document 01, "The sine" (RULES.md, "The sine"): Sin and Cos from the table, and P over the whole turn. An angle is reduced, in units of 0.0001″.
use Rattle.std.specs.Prelude.{cond, ℕ, ◌+◌, ◌-◌, ◌*◌, ◌/◌, ◌%◌, leb, ltb, ℤ, pos, neg_ℤ}
use Rattle.exact.specs.Division.{nearest_div_ℕ}
use Rattle.exact.specs.Reduction.{Q, reduced}
use Rattle.sine_table.specs.Step.{step}
use Rattle.sine_table.specs.SinePolynomial.{poly_num}
use Rattle.sine_table.specs.Table.{R, entry_at}

-- the share of r units of a step on the way from `low` to `high`, to nearest
abbrev pub interpolated : ℕ → ℕ → ℕ → ℕ
interpolated low high r = nearest_div_ℕ (low * (step - r) + high * r) step

-- Sin on 0..Q: on the straight line between the two entries around a, and R at the end
unfoldable pub sin_quadrant : ℕ → ℕ
sin_quadrant a = cond (ltb a Q) (interpolated (entry_at (a / step)) (entry_at (a / step + 1)) (a % step)) R

-- f, given on 0..Q, on the first half of the turn: the second quadrant mirrors the first
abbrev pub half : (ℕ → ℕ) → ℕ → ℕ
half f a = cond (leb a Q) (f a) (f (2 * Q - a))

-- and on the turn: the second half is the first with a minus
abbrev pub extended : (ℕ → ℕ) → ℕ → ℤ
extended f a = cond (leb a (2 * Q)) (pos (half f a)) (neg_ℤ (pos (half f (a - 2 * Q))))

unfoldable pub Sin : ℕ → ℤ
Sin a = extended sin_quadrant a

-- P over the turn: its numerator, over poly_den
unfoldable pub poly_at : ℕ → ℤ
poly_at a = extended poly_num a

-- the sine a quadrant on
unfoldable pub Cos : ℕ → ℤ
Cos a = Sin (reduced (pos (a + Q)))
