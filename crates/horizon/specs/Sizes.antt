-- What keeps the angles of a sight within a turn, and its squares within 64 bits.
use Rattle.std.specs.Prelude.{ℕ, ◌*◌, ◌<◌}
use Rattle.exact.specs.Reduction.{turn}
use Rattle.rotation.specs.Sizes.{component_most}
use Rattle.horizon.specs.declared.SightAngles.{SightAngles}

-- the three angles are reduced
abbrev pub SightReduced : SightAngles → Type 0
SightReduced a = (a.azimuth < turn) × (a.zenith_distance < turn) × (a.hour_angle < turn)

-- the largest sum of two squares of components
abbrev pub square_most : ℕ
square_most = 2 * (component_most * component_most)
