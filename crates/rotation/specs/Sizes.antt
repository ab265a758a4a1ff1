-- How large a direction and its components may be, so that no step of a rotation leaves 64 bits.
use Rattle.std.specs.Prelude.{List, ℕ, ◌*◌, ◌≤◌, ℤ, nat_abs}
use Rattle.exact.specs.Nth.{nth}
use Rattle.sine_table.specs.Table.{R}

-- the squared length of the longest direction that is rotated: 2·R², where a direction is to have R²
abbrev pub reach : ℕ
reach = 2 * (R * R)

-- no number of a list is larger than k in magnitude
abbrev pub Bounded : ℕ → List ℤ → Type 0
Bounded k xs = (i : ℕ) → nat_abs (nth xs i) ≤ k

-- a component of such a direction, and the sum of a row's three products
abbrev pub component_most : ℕ
component_most = 1_500_000_000

abbrev pub sum_most : ℕ
sum_most = 4_500_000_000_000_000_000
