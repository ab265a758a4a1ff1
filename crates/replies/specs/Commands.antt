-- Document 01, "One session, whole" (RULES.md, "Lines"): what a line of the session asks. `H` hears a number into a field, `R` reads a field out, `C`
-- confirms it, `S` shoots; the parts are kept apart by single spaces, a numeral has up to 9 digits and may have a "-" before them, and all else is
-- malformed, no bytes at all too.
use Rattle.std.specs.Prelude.{◌≡◌, refl, cond, List, [], ◌∷◌, ℕ, eqb, ℤ, pos, neg_ℤ, length}
use Rattle.exact.specs.Nth.{nth}
use Rattle.lines.specs.Numerals.{digits_from, words, numbers_behind, numbers_of}
use Rattle.replies.specs.declared.Command.{Command}
use Rattle.replies.specs.declared.Command.TheVariants.{Hear, Read, Confirm, Shoot, Malformed}

-- `R` or `C`, and a field
abbrev pub field_command : ℕ → ℤ → Command
field_command letter f = cond (eqb letter 82) (Read f) (cond (eqb letter 67) (Confirm f) Malformed)

-- a letter, and the numbers behind it: `H` with a field and a number, `R` and `C` with a field
abbrev pub letter_command : ℕ → List ℤ → Command
letter_command letter l =
    cond (eqb letter 72)
    (cond (eqb (length l) 2) (Hear (nth l 0) (nth l 1)) Malformed)
    (cond (eqb (length l) 1) (field_command letter (nth l 0)) Malformed)

-- `S` alone, or a letter, a space and numbers
abbrev pub session_command : List ℕ → Command
session_command [] = Malformed
session_command (letter ∷ []) = cond (eqb letter 83) Shoot Malformed
session_command (letter ∷ space ∷ l) = cond (eqb space 32) (letter_command letter (numbers_of 9 l)) Malformed

-- the longest line that is not malformed, of any program: thirteen numbers of "-" and 18 digits, and the spaces between. (proofs/LongLines.antt)
abbrev pub longest_line : ℕ
longest_line = 259

-- `H 5 -50`
hears : session_command (72 ∷ 32 ∷ 53 ∷ 32 ∷ 45 ∷ 53 ∷ 48 ∷ []) ≡ Hear (pos 5) (neg_ℤ (pos 50))
unfolding digits_from words numbers_behind
hears = refl

-- `R  5`: two spaces
two-spaces : session_command (82 ∷ 32 ∷ 32 ∷ 53 ∷ []) ≡ Malformed
unfolding digits_from words numbers_behind
two-spaces = refl
