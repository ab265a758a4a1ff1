-- Document 01, "The card", what a reading writes (RULES.md, "The card"): a number's text at a place of a buffer.
use Rattle.std.specs.Prelude.{Bool, cond, Option, Some, None, List, ◌++◌, ℕ, ◌+◌, leb, ℤ, length, take, drop}
use Rattle.digits.specs.Text.{text}

-- whether the text lies within the buffer, from a place on. It may end where the buffer ends
abbrev pub fits : List ℕ → ℕ → ℤ → Bool
fits buffer place z = leb (place + length (text z)) (length buffer)

-- how many bytes are written, where the text fits
abbrev pub write_at : List ℕ → ℕ → ℤ → Option ℕ
write_at buffer place z = cond (fits buffer place z) (Some (length (text z))) None

-- the buffer with a text at a place: the bytes before and behind it are kept
abbrev pub over : List ℕ → ℕ → List ℕ → List ℕ
over buffer place t = take place buffer ++ t ++ drop (place + length t) buffer

-- the buffer afterwards, which stays as it was where the text does not fit
abbrev pub buffer_with : List ℕ → ℕ → ℤ → List ℕ
buffer_with buffer place z = cond (fits buffer place z) (over buffer place (text z)) buffer
