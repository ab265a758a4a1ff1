-- Document 01, "The card" (RULES.md, "The card"): the text of a number as it is read out, a list of ASCII bytes. The digits of its magnitude stand from
-- the highest down, without zeros in front and with single spaces between; a negative number has a minus and a space before them.
use Rattle.std.specs.Prelude.{◌≡◌, refl, cond, List, [], ◌∷◌, ◌++◌, ℕ, zero, suc, ◌+◌, ◌/◌, ◌%◌, ltb, ℤ, pos, negsuc, neg_ℤ}

-- the decimal digits of n, most significant first, where n has at most so many places
unfoldable pub decimal_in : ℕ → ℕ → List ℕ
decimal_in zero n = []
decimal_in (suc places) n = cond (ltb n 10) (n ∷ []) (decimal_in places (n / 10) ++ (n % 10 ∷ []))

-- the decimal digits of n. It has at most n + 1 places: proofs/Decimal.antt shows that they are never used up, for any n
unfoldable pub decimal : ℕ → List ℕ
decimal n = decimal_in (suc n) n

-- digits as bytes, with single spaces between
unfoldable pub spaced : List ℕ → List ℕ
spaced [] = []
spaced (d ∷ []) = (48 + d) ∷ []
spaced (d ∷ e ∷ l) = (48 + d) ∷ 32 ∷ spaced (e ∷ l)

unfoldable pub digits : ℕ → List ℕ
digits n = spaced (decimal n)

-- the digits, behind "-" and a space where the number is below 0
abbrev pub text : ℤ → List ℕ
text (pos n) = digits n
text (negsuc n) = 45 ∷ 32 ∷ digits (suc n)

-- "5 0"
fifty : text (pos 50) ≡ 53 ∷ 32 ∷ 48 ∷ []
unfolding digits spaced decimal decimal_in
fifty = refl

-- "- 7 5"
minus-seventy-five : text (neg_ℤ (pos 75)) ≡ 45 ∷ 32 ∷ 55 ∷ 32 ∷ 53 ∷ []
unfolding digits spaced decimal decimal_in
minus-seventy-five = refl

-- "0"
nought : text (pos 0) ≡ 48 ∷ []
unfolding digits spaced decimal decimal_in
nought = refl
