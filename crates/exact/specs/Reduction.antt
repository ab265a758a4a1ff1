-- Document 01, "Units and rounding" (RULES.md, "Units"): angles, in units of 0.0001″, and their reduction to a turn.
use Rattle.std.specs.Prelude.{Bool, ℕ, ◌-◌, min, max, ℤ, pos, nat_abs, ◌-ℤ◌, ◌*ℤ◌}
use Rattle.exact.specs.Division.{floor_div}
use Rattle.exact.specs.Range.{between}

-- 01's Q: a quadrant, 90°
abbrev pub Q : ℕ
Q = 3_240_000_000

-- four quadrants, 360°
abbrev pub turn : ℕ
turn = 12_960_000_000

-- what the floor leaves of z / d: z − d·floor(z / d), from 0 to d − 1, never negative (law `rest-is`)
unfoldable pub rest : ℤ → ℕ → ℕ
rest z d = nat_abs (z -ℤ pos d *ℤ floor_div z d)

-- 01's reduced: 0 to turn − 1
abbrev pub is_reduced : ℤ → Bool
is_reduced z = between (pos 0) z (pos (turn - 1))

unfoldable pub reduced : ℤ → ℕ
reduced z = rest z turn

-- how far two angles lie from each other without passing 0
abbrev pub apart : ℕ → ℕ → ℕ
apart a b = max a b - min a b

-- 01's short way: the distance of two reduced angles on the circle, by way of 0 or not, whichever is less
unfoldable pub short_way : ℕ → ℕ → ℕ
short_way a b = min (apart a b) (turn - apart a b)
