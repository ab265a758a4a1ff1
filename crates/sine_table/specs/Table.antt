-- Document 01, "The sine" (RULES.md, "The sine"): the table and its rule.
use Rattle.std.specs.Prelude.{List, [], ◌∷◌, ℕ, zero, suc, ◌+◌, ◌*◌, ◌/◌}
use Rattle.exact.specs.Division.{nearest_div_ℕ}
use Rattle.exact.specs.Reduction.{Q}
use Rattle.sine_table.specs.Step.{step}
use Rattle.sine_table.specs.SinePolynomial.{poly_num, poly_den}

-- 01's R: what a sine of one is scaled to
abbrev pub R : ℕ
R = 1_000_000_000

-- the rule of a table with any step s: its n-th number is R·P at n steps, to nearest
unfoldable pub entry_by : ℕ → ℕ → ℕ
entry_by s n = nearest_div_ℕ (R * poly_num (s * n)) poly_den

abbrev pub entry_at : ℕ → ℕ
entry_at n = entry_by step n

-- how many steps a quadrant has: 5,400
abbrev pub step_count : ℕ
step_count = Q / step

-- an entry at the start of each, and one at the end
abbrev pub entry_count : ℕ
entry_count = step_count + 1

-- the entries n, n + 1, .. , k of them
unfoldable pub entries_from : ℕ → ℕ → List ℕ
entries_from n zero = []
entries_from n (suc k) = entry_at n ∷ entries_from (suc n) k

unfoldable pub entries : List ℕ
entries = entries_from 0 entry_count
