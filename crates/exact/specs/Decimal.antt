-- Document 01, "Units and rounding" (RULES.md, "Units"): printed coefficients, in whole units of an angle.
use Rattle.std.specs.Prelude.{ℕ, ◌*◌, ◌^◌, ℤ, pos, neg_ℤ}
use Rattle.exact.specs.Division.{nearest_div}

-- a decimal as it is printed: its digits and how many of them stand behind the point. `plus 279_696_678 6` is 279.696678, `minus 15 5` is −0.00015
pub data Decimal : Type 0 where
  plus : (digits places : ℕ) → Decimal
  minus : (digits places : ℕ) → Decimal

-- a printed number of something that has so many units
abbrev pub in_units : ℕ → Decimal → ℤ
in_units units (plus digits places) = nearest_div (pos (units * digits)) (10 ^ places)
in_units units (minus digits places) = nearest_div (neg_ℤ (pos (units * digits))) (10 ^ places)

-- an hour of right ascension has 540,000,000 units of 0.0001″, a degree 36,000,000, a second of arc 10,000, a second of time 150,000
abbrev pub hours : Decimal → ℤ
hours = in_units 540_000_000

abbrev pub degrees : Decimal → ℤ
degrees = in_units 36_000_000

abbrev pub arc_seconds : Decimal → ℤ
arc_seconds = in_units 10_000

abbrev pub time_seconds : Decimal → ℤ
time_seconds = in_units 150_000
