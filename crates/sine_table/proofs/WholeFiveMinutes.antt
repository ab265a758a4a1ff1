-- Request 5: the entries at whole 5′ stay. Entry 5n is entry n of the same rule with a step of 5′, for every n.
use mathlib.Core.Path.{◌≡◌, ap}
use Prim.Native.Nat.{ℕ, ◌*◌}
use native.Mathlib.Omega.{arith}
use Rattle.sine_table.specs.Step.{step}
use Rattle.sine_table.specs.SinePolynomial.{poly_num, poly_den}
use Rattle.sine_table.specs.Table.{R, entry_by, entry_at}
use Rattle.exact.specs.Division.{nearest_div_ℕ}

pub whole-five-minutes-stay : (n : ℕ) → entry_at (5 * n) ≡ entry_by 3_000_000 n
unfolding entry_by
whole-five-minutes-stay n = let same : step * (5 * n) ≡ 3_000_000 * n = omega arith in ap (λ (a : ℕ). nearest_div_ℕ (R * poly_num a) poly_den) same
