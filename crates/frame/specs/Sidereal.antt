-- Document 01, "Time" (RULES.md, "Time"): Greenwich sidereal time by Newcomb, in units.
use Rattle.std.specs.Prelude.{List, [], ◌∷◌, ℕ, ◌^◌, ℤ, pos, ◌+ℤ◌, ◌*ℤ◌}
use Rattle.exact.specs.Reduction.{reduced}
use Rattle.exact.specs.Century.{century}
use Rattle.exact.specs.Decimal.{plus, time_seconds}
use Rattle.exact.specs.Division.{floor_div, nearest_div}
use Rattle.exact.specs.Nth.{nth}
use Rattle.secular.specs.FlooredPolynomial.{polynomial, value}
use Rattle.sine_table.specs.Table.{R}
use Rattle.sine.specs.Sine.{Cos}
use Rattle.epoch.specs.Epoch.{Epoch}

-- what it has beyond the time since midnight: 6h 38m 45.836s + 8640184.542s T + 0.0929s T²
unfoldable pub sidereal : List ℤ
sidereal = time_seconds (plus 23_925_836 3) ∷ time_seconds (plus 8_640_184_542 3) ∷ time_seconds (plus 929 4) ∷ []

-- the equation of the equinoxes; ε is reduced before its cosine is taken
unfoldable pub equinoxes : ℤ → ℤ → ℤ
equinoxes Δψ ε = nearest_div (Δψ *ℤ Cos (reduced ε)) R

-- 150 units in each millisecond since midnight; that row, its middle coefficient with N itself; and the equation of the equinoxes
unfoldable pub sidereal_time : Epoch → ℤ → ℤ → ℕ
sidereal_time e Δψ ε =
    reduced
    (pos 150 *ℤ (e.n +ℤ pos 43_200_000) +ℤ floor_div (nth sidereal 1 *ℤ e.n) century +ℤ value (polynomial (nth sidereal 0) (pos 0) (nth sidereal 2) (10 ^ 12)) e.q
    +ℤ equinoxes Δψ ε)
