-- Document 01, "Refusal numbers" (RULES.md, "Refusals"): the first test that fails decides. What a call asks of its input is one list of tests in the stated
-- order, each with the number of its refusal.
use Rattle.std.specs.Prelude.{Bool, cond, List, [], ◌∷◌, ℕ}

pub record Test : Type 0 where
  pub passes : Bool
  pub number : ℕ

abbrev pub test : Bool → ℕ → Test
test passes number = record { passes = passes; number = number }

-- the answer where every test passes; else the refusal, by the number of the first test that fails
abbrev pub decided : {A : Type 0} → List Test → A → (ℕ → A) → A
decided [] answer refused = answer
decided (t ∷ ts) answer refused = cond t.passes (decided ts answer refused) (refused t.number)
