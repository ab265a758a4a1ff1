-- How long a direction is, and by how much a rotation may enlarge it (RULES.md, "Rotations").
use Rattle.std.specs.Prelude.{List, [], ◌∷◌, ℕ, ◌+◌, ◌*◌, ℤ, nat_abs}
use Rattle.rotation.specs.Rotation.{rotation1, rotation2, rotation3}

-- the sum of the squares of the components
unfoldable pub squared_length : List ℤ → ℕ
squared_length [] = 0
squared_length (x ∷ d) = nat_abs x * nat_abs x + squared_length d

-- R1, R2 or R3 of any angle
pub data Rotation : List (List ℤ) → Type 0 where
  axis1 : (a : ℤ) → Rotation (rotation1 a)
  axis2 : (a : ℤ) → Rotation (rotation2 a)
  axis3 : (a : ℤ) → Rotation (rotation3 a)

-- a rotation enlarges a squared length by this at most, 7.408·R (proofs/Growth.antt)
abbrev pub growth : ℕ
growth = 7_408_000_003
