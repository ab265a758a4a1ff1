-- RULES.md, "Lines": a number in plain decimal; and what is appended to a buffer of answers.
use Rattle.std.specs.Prelude.{◌≡◌, refl, List, [], ◌∷◌, ◌++◌, map, ℕ, ◌+◌, length, take}
use Rattle.digits.specs.Text.{decimal_in, decimal}
use Rattle.lines.specs.declared.output.Output.{Output}

-- a number in plain decimal, as ASCII bytes
unfoldable pub decimal_text : ℕ → List ℕ
decimal_text n = map (λ d. 48 + d) (decimal n)

-- how many bytes a buffer has
abbrev pub capacity : Output → ℕ
capacity o = length o.bytes.now

-- what is written into it
abbrev pub written : Output → List ℕ
written o = take o.len o.bytes.now

-- `text` follows what was written before, and nothing else does, in the same lent buffer
pub record Appends (before : Output) (text : List ℕ) (after : Output) : Type 0 where
  pub ends : after.len ≡ before.len + length text
  pub holds : written after ≡ written before ++ text
  pub room : capacity after ≡ capacity before
  pub same_buffer : after.bytes.ghost_name ≡ before.bytes.ghost_name

-- "140"
one-hundred-and-forty : decimal_text 140 ≡ 49 ∷ 52 ∷ 48 ∷ []
unfolding decimal_text decimal decimal_in
one-hundred-and-forty = refl
