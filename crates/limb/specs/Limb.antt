-- Document 02, request 9 (RULES.md, "The limb"): what the horizontal angle to a limb of the Sun lacks of that to its centre, in units of 0.0001″.
use Rattle.std.specs.Prelude.{Bool, cond, ℕ, ℤ, pos, neg_ℤ, nat_abs, ◌+ℤ◌, ◌*ℤ◌}
use Rattle.std.proofs.Math.Bool.{decide}
use Rattle.std.proofs.Math.IntN.{ℤ_discrete}
use Rattle.exact.specs.Decimal.{plus, degrees}
use Rattle.exact.specs.Division.{nearest_div}
use Rattle.exact.specs.Reduction.{reduced}
use Rattle.sine_table.specs.Table.{R}
use Rattle.sine.specs.Sine.{Sin}
use Rattle.orbit.specs.Orbit.{at_distance}

-- the Sun's semidiameter at the distance r: 0.266994° at the mean distance (source 001)
unfoldable pub semidiameter : ℕ → ℤ
semidiameter r = at_distance (degrees (plus 266_994 6)) r

-- what it is seen as from a zenith distance z, in the horizontal plane
unfoldable pub correction : ℕ → ℕ → ℤ
correction r z = nearest_div (semidiameter r *ℤ pos R) (nat_abs (Sin z))

-- 1: the centre
abbrev pub is_centre : ℤ → Bool
is_centre limb = decide (ℤ_discrete limb (pos 1))

-- angles grow clockwise, and so the centre lies beyond the left limb and short of the right one, in either hemisphere
abbrev pub is_left : ℤ → Bool
is_left limb = decide (ℤ_discrete limb (pos 2))

unfoldable pub from_limb : ℤ → ℕ → ℕ → ℤ
from_limb limb r z = cond (is_centre limb) (pos 0) (cond (is_left limb) (correction r z) (neg_ℤ (correction r z)))

-- the angle from the mark to the centre, of that to the limb, reduced
unfoldable pub centre_angle : ℤ → ℕ → ℕ → ℤ → ℕ
centre_angle limb r z angle = reduced (angle +ℤ from_limb limb r z)
