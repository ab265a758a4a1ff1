-- The quick count of the days in some years is the plain one, by a test that antt computes over every year; and the range of D.
use mathlib.Core.Path.{◌≡◌, refl, ap}
use mathlib.Core.Bool.{Bool}
use mathlib.Core.List.{List, [], ◌∷◌}
use Prim.Native.Nat.{ℕ, zero, suc, ◌+◌, ◌-◌, ◌*◌, ◌/◌, ◌≤◌}
use native.Mathlib.Nat.{le_refl}
use native.Mathlib.Omega.{arith}
use lib.Dec.{eqb, eqb→eq}
use lib.ListN.{get_or, take}
use Rattle.exact.proofs.AllBelow.{below_all}
use Rattle.calendar.specs.Date.{leap_year, months, total, year_days}

-- ---- years
year_rule : ℕ → Bool
year_rule k = eqb (365 * k + (k - 1) / 4) (year_days k)

pub year-days : (k : ℕ) → k ≤ 200 → 365 * k + (k - 1) / 4 ≡ year_days k
unfolding year_rule year_days leap_year
year-days k h = eqb→eq (365 * k + (k - 1) / 4) (year_days k) (below_all year_rule 201 k tt (omega arith))

year-more : (k : ℕ) → year_days (suc k) ≡ year_days k + total (months (leap_year (1900 + k)))
unfolding year_days
year-more k = refl

-- ---- the range of D
-- a month ends within its year
pub upto_le : (l : List ℕ) (k : ℕ) → total (take k l) + get_or l k 0 ≤ total l
upto_le [] zero = le_refl 0
upto_le [] (suc k) = le_refl 0
upto_le (x ∷ l) zero = omega arith
upto_le (x ∷ l) (suc k) = omega (arith, upto_le l k)

-- b is what lies before a month, so a day of the month lies within the year
pub in-range : (y b d : ℕ) → 1976 ≤ y → y ≤ 2049 → 1 ≤ d → b + d ≤ total (months (leap_year y)) → (27_759 ≤ year_days (y - 1900) + b + d) × (year_days (y - 1900) + b + d ≤ 54_787)
in-range y b d l h p q =
    let n = y - 1900 in
    let e : 1900 + n ≡ y = omega arith in
    omega (arith, year-days n (omega arith), year-days (suc n) (omega arith), year-more n, ap (λ (n : ℕ). total (months (leap_year n))) e)
