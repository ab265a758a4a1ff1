-- Document 01, "The card" (fields 1, 2, 3) and "Time" (RULES.md, "Fields" and "Time"): Gregorian dates, and D, the days from 1899-12-31 to a date,
-- counted year by year and month by month.
use Rattle.std.specs.Prelude.{Bool, cond, not, ◌&&◌, ◌||◌, List, [], ◌∷◌, ℕ, zero, suc, ◌+◌, ◌-◌, ◌%◌, eqb, ℤ, pos, nat_abs, get_or, take}
use Rattle.exact.specs.Range.{between}

-- every fourth year is a leap year; of the hundreds only every fourth hundred
unfoldable pub leap_year : ℕ → Bool
leap_year y = eqb (y % 4) 0 && (not (eqb (y % 100) 0) || eqb (y % 400) 0)

-- the lengths of the months of a common year and of a leap year
abbrev pub months : Bool → List ℕ
months leap = 31 ∷ cond leap 29 28 ∷ 31 ∷ 30 ∷ 31 ∷ 30 ∷ 31 ∷ 31 ∷ 30 ∷ 31 ∷ 30 ∷ 31 ∷ []

-- the sum of the numbers in a list
abbrev pub total : List ℕ → ℕ
total [] = 0
total (n ∷ ns) = n + total ns

-- the length of month m of year y
unfoldable pub month_length : ℕ → ℕ → ℕ
month_length y m = get_or (months (leap_year y)) (m - 1) 0

-- the days in the k years from 1900 on
unfoldable pub year_days : ℕ → ℕ
year_days zero = 0
year_days (suc k) = year_days k + total (months (leap_year (1900 + k)))

-- the days in the months of year y before month m
unfoldable pub month_days : ℕ → ℕ → ℕ
month_days y m = total (take (m - 1) (months (leap_year y)))

-- 01's D: the days from 1899-12-31 to the date
unfoldable pub day_count : ℕ → ℕ → ℕ → ℕ
day_count y m d = year_days (y - 1900) + month_days y m + d

-- a date of the years accepted, 1976-01-01 to 2049-12-31
unfoldable pub is_date : ℤ → ℤ → ℤ → Bool
is_date y m d = between (pos 1976) y (pos 2049) && (between (pos 1) m (pos 12) && between (pos 1) d (pos (month_length (nat_abs y) (nat_abs m))))
