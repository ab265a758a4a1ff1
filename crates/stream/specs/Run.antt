-- Document 01, "One session, whole" (RULES.md, "Lines"): the run of a program, all that it writes for a whole input. What stands behind the last
-- newline is a line too, unless it is nothing. Every line has one line of output.
use Rattle.std.specs.Prelude.{◌≡◌, refl, cond, List, [], ◌∷◌, ◌++◌, ℕ, eqb}
use Rattle.card.specs.Fields.{fresh_card}
use Rattle.card.specs.declared.Card.{Card}
use Rattle.replies.specs.Answers.{reply, next}
use Rattle.replies.specs.declared.Protocol.{Protocol}

-- the last line, where something stands behind the last newline
abbrev pub last_line : List ℕ → List (List ℕ)
last_line [] = []
last_line (b ∷ l) = (b ∷ l) ∷ []

-- the lines of an input behind `begun`, which stands on the first line already
unfoldable pub lines_behind : List ℕ → List ℕ → List (List ℕ)
lines_behind begun [] = last_line begun
lines_behind begun (b ∷ input) = cond (eqb b 10) (begun ∷ lines_behind [] input) (lines_behind (begun ++ (b ∷ [])) input)

abbrev pub lines_of : List ℕ → List (List ℕ)
lines_of input = lines_behind [] input

-- the answers to lines, one after the other
unfoldable pub replies : Protocol → Card → List (List ℕ) → List ℕ
replies p c [] = []
replies p c (l ∷ ls) = reply p c l ++ replies p (next p c l) ls

-- from a fresh card
abbrev pub run : Protocol → List ℕ → List ℕ
run p input = replies p fresh_card (lines_of input)

-- "S\n\nS": an empty line between, and the last without a newline
three-lines : lines_of (83 ∷ 10 ∷ 10 ∷ 83 ∷ []) ≡ (83 ∷ []) ∷ [] ∷ (83 ∷ []) ∷ []
unfolding lines_behind
three-lines = refl
