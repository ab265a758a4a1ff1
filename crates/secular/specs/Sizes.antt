-- How large a floored polynomial may be, so that no step of it leaves 64 bits: all those of the papers are smaller.
use Rattle.std.specs.Prelude.{ℕ, ◌+◌, ◌*◌, ◌≤◌, ◌^◌, pos, nat_abs, ◌≤ℤ◌}
use Rattle.secular.specs.declared.Polynomial.{Polynomial}

pub record Sized (c : Polynomial) : Type 0 where
  pub c0 : nat_abs c.c0 ≤ 2 ^ 40
  pub c1 : nat_abs c.c1 ≤ 2 ^ 25
  pub c2 : nat_abs c.c2 ≤ 2 * 10 ^ 6
  pub low : pos (10 ^ 12) ≤ℤ c.divisor
  pub high : c.divisor ≤ℤ pos (2 * 10 ^ 12)

-- the largest x, in millionths: a century and a half
abbrev pub most_millionths : ℕ
most_millionths = 1_500_000

-- the most that a value can be for such an x, of whatever sign
unfoldable pub most : Polynomial → ℕ
most c = nat_abs c.c0 + 2 * nat_abs c.c1 + 3 * nat_abs c.c2
