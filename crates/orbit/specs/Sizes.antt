-- How near and how far the Sun may be, in units of 10^−9 of the mean distance: what divides by r never divides by 0, and stays within 64 bits.
use Rattle.std.specs.Prelude.{ℕ, ◌≤◌}

-- the largest eccentricity: no accepted instant has as much
abbrev pub eccentricity_most : ℕ
eccentricity_most = 17_000_000

-- r at perihelion and at aphelion of an ellipse with that eccentricity
pub record RadiusSized (r : ℕ) : Type 0 where
  pub nearest : 983_000_000 ≤ r
  pub farthest : r ≤ 1_017_000_000
