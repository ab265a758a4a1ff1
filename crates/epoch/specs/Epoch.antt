-- Document 01, "Time" (RULES.md, "Time"): an instant as a number of milliseconds, N, and of millionths of a century, q.
use Rattle.std.specs.Prelude.{ℕ, ℤ, pos, ◌*ℤ◌}
use Rattle.exact.specs.Century.{century}
use Rattle.exact.specs.Division.{floor_div}

-- an instant as the theory takes it: N, in milliseconds since 1900 January 0.5, and q, the millionths of a Julian century in it
pub record Epoch : Type 0 where
  pub n : ℤ
  pub q : ℤ

-- 01's q: the millionths of a century in N, rounded down
unfoldable pub millionths : ℤ → ℤ
millionths n = floor_div (pos 1_000_000 *ℤ n) century

-- q of the first accepted instant, 1976-01-01 0h with DUT1 −900 and ΔT 0, and of the last: the leap second of 2049-12-31
abbrev pub first_millionth : ℕ
first_millionth = 759_986

abbrev pub last_millionth : ℕ
last_millionth = 1_500_000

abbrev pub epoch : ℤ → ℤ → Epoch
epoch n q = record { n = n; q = q }

abbrev pub epoch_of : ℤ → Epoch
epoch_of n = epoch n (millionths n)
