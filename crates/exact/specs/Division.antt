-- Document 01, "Units and rounding" (RULES.md, "Units"): the two divisions of the book, of an exact quotient of whole numbers with a positive divisor.
use Rattle.std.specs.Prelude.{ℕ, ◌+◌, ◌*◌, ◌/◌, ℤ, pos, negsuc, ◌+ℤ◌, ◌*ℤ◌}

-- 01's floor: z / d, toward minus infinity
unfoldable pub floor_div : ℤ → ℕ → ℤ
floor_div (pos a) d = pos (a / d)
floor_div (negsuc a) d = negsuc (a / d)

-- 01's nearest: halves up, so the floor of z / d + 1/2 = (2·z + d) / (2·d)
unfoldable pub nearest_div : ℤ → ℕ → ℤ
nearest_div z d = floor_div (pos 2 *ℤ z +ℤ pos d) (2 * d)

-- the same of a quotient that is not negative (law `nearest-pos`)
unfoldable pub nearest_div_ℕ : ℕ → ℕ → ℕ
nearest_div_ℕ a d = (2 * a + d) / (2 * d)
