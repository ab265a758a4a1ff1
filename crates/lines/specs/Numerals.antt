-- RULES.md, "Lines": the numbers of a line, each an optional "-" and 1 to so many digits, one space between. A
-- line is a list of bytes, without its newline.
use Rattle.std.specs.Prelude.{◌≡◌, refl, cond, ◌||◌, List, [], ◌∷◌, ◌++◌, ℕ, ◌+◌, ◌-◌, ◌*◌, ltb, eqb, ℤ, pos, neg_ℤ, length, take, Option, Some, None}
use Rattle.lines.specs.declared.Row.{Row}

-- ---- a number
-- the digits behind those that made n, all together
unfoldable pub digits_from : ℕ → List ℕ → Option ℕ
digits_from n [] = Some n
digits_from n (c ∷ l) = cond (ltb c 48 || ltb 57 c) None (digits_from (n * 10 + (c - 48)) l)

-- 1 to `most` digits
abbrev pub digits_of : ℕ → List ℕ → Option ℕ
digits_of most l = cond (ltb (length l) 1 || ltb most (length l)) None (digits_from 0 l)

abbrev pub plus : Option ℕ → Option ℤ
plus (Some n) = Some (pos n)
plus None = None

abbrev pub minus : Option ℕ → Option ℤ
minus (Some n) = Some (neg_ℤ (pos n))
minus None = None

-- an optional "-" and 1 to `most` digits
abbrev pub numeral_of : ℕ → List ℕ → Option ℤ
numeral_of most [] = None
numeral_of most (c ∷ l) = cond (eqb c 45) (minus (digits_of most l)) (plus (digits_of most (c ∷ l)))

-- ---- a line of numbers
-- the words of a line are what its spaces part: between two spaces in a row stands an empty one
abbrev pub prefixed : ℕ → List (List ℕ) → List (List ℕ)
prefixed c [] = (c ∷ []) ∷ []
prefixed c (w ∷ ws) = (c ∷ w) ∷ ws

unfoldable pub words : List ℕ → List (List ℕ)
words [] = [] ∷ []
words (c ∷ l) = cond (eqb c 32) ([] ∷ words l) (prefixed c (words l))

-- the most numbers that a line of any program has: a pointing's eleven fields, its horizontal angle and the edition
abbrev pub row_length : ℕ
row_length = 13

abbrev pub if_number : Option ℤ → (ℤ → List ℤ) → List ℤ
if_number None then = []
if_number (Some z) then = then z

-- the words' numbers, behind those of `row`. There are none where some word is no number, or where there are too many
unfoldable pub numbers_behind : List ℤ → ℕ → List (List ℕ) → List ℤ
numbers_behind row most [] = row
numbers_behind row most (w ∷ ws) =
    if_number (numeral_of most w) λ z. cond (ltb (length row) row_length) (numbers_behind (row ++ (z ∷ [])) most ws) []

-- the numbers of a line, with one space between; none where it is not of this form
abbrev pub numbers_of : ℕ → List ℕ → List ℤ
numbers_of most l = numbers_behind [] most (words l)

-- the numbers that a row holds
abbrev pub listed : Row → List ℤ
listed r = take r.count r.numbers

-- "5 -50"
two-numbers : numbers_of 9 (53 ∷ 32 ∷ 45 ∷ 53 ∷ 48 ∷ []) ≡ pos 5 ∷ neg_ℤ (pos 50) ∷ []
unfolding digits_from words numbers_behind
two-numbers = refl

-- "5  5": two spaces
two-spaces : numbers_of 9 (53 ∷ 32 ∷ 32 ∷ 53 ∷ []) ≡ []
unfolding digits_from words numbers_behind
two-spaces = refl
