-- Document 01, "The sine" (RULES.md, "The sine"): P, the sine's power series up to the seventeenth power, as one fraction of whole numbers. For an angle
-- a of the first quadrant P(a) is poly_num a / poly_den. The numbers are large (poly_den has 1,472 bits), so their names open only on demand.
use Rattle.std.specs.Prelude.{List, [], ◌∷◌, ℕ, zero, suc, ◌+◌, ◌-◌, ◌*◌, ◌/◌, ◌^◌}

-- x = a · arc / whole, the angle of a units in radians: arc is π, whole two quadrants, both times 10^16
unfoldable pub arc : ℕ
arc = 31_415_926_535_897_932

unfoldable pub whole : ℕ
whole = 6_480_000_000 * 10 ^ 16

abbrev pub factorial : ℕ → ℕ
factorial zero = 1
factorial (suc n) = suc n * factorial n

-- the common denominator of the nine terms
unfoldable pub poly_den : ℕ
poly_den = factorial 17 * whole ^ 17

-- xᵐ / m! over poly_den, for m at most 17: (arc · a)ᵐ times what poly_den has beyond m! · wholeᵐ
unfoldable pub cofactor : ℕ → ℕ
cofactor m = factorial 17 / factorial m * whole ^ (17 - m)

unfoldable pub term : ℕ → ℕ → ℕ
term a m = (arc * a) ^ m * cofactor m

abbrev pub terms : ℕ → List ℕ → ℕ
terms a [] = 0
terms a (m ∷ ms) = term a m + terms a ms

-- the powers with plus, and those with minus
abbrev pub plus : List ℕ
plus = 1 ∷ 5 ∷ 9 ∷ 13 ∷ 17 ∷ []

abbrev pub minus : List ℕ
minus = 3 ∷ 7 ∷ 11 ∷ 15 ∷ []

-- the numerator of P(a), for a in 0..Q: there the terms with minus are at most those with plus (law `minus-le-plus`), so the difference is exact
unfoldable pub poly_num : ℕ → ℕ
poly_num a = terms a plus - terms a minus
