-- Document 01, "Polaris" (RULES.md, "Polaris"): from the position in the catalogue to the apparent direction, by precession, nutation and aberration.
use Rattle.std.specs.Prelude.{List, [], ◌∷◌, ℕ, ℤ, pos, neg_ℤ, ◌+ℤ◌, ◌*ℤ◌}
use Rattle.exact.specs.Division.{nearest_div}
use Rattle.sine_table.specs.Table.{R}
use Rattle.sine.specs.Sine.{Sin, Cos}
use Rattle.rotation.specs.Rotation.{rotated, rotation1, rotation2, rotation3, sin_of, cos_of}
use Rattle.epoch.specs.Epoch.{Epoch}
use Rattle.polaris.specs.Elements.{tropical_millionths, elements_of}
use Rattle.polaris.specs.declared.Elements.{Elements}

-- a·b over R, to nearest
abbrev pub scaled : ℤ → ℤ → ℤ
scaled a b = nearest_div (a *ℤ b) R

-- the direction of a right ascension α and a declination δ
unfoldable pub catalogue : ℤ → ℤ → List ℤ
catalogue α δ = scaled (cos_of δ) (cos_of α) ∷ scaled (cos_of δ) (sin_of α) ∷ sin_of δ ∷ []

-- precession is the first three rotations, nutation the last three
unfoldable pub precessed : ℤ → ℤ → ℤ → List ℤ → List ℤ
precessed ζ θ z d = rotated (rotation3 (neg_ℤ z)) (rotated (rotation2 θ) (rotated (rotation3 (neg_ℤ ζ)) d))

unfoldable pub nutated : ℤ → ℤ → ℤ → List ℤ → List ℤ
nutated ε₀ Δψ ε d = rotated (rotation1 (neg_ℤ ε)) (rotated (rotation3 (neg_ℤ Δψ)) (rotated (rotation1 ε₀) d))

-- the direction of the star itself, of the mean obliquity ε₀, the nutation in longitude Δψ and the true obliquity ε
unfoldable pub true_direction : Elements → ℤ → ℤ → ℤ → List ℤ
true_direction k ε₀ Δψ ε =
    nutated ε₀ Δψ ε (precessed k.zeta k.theta k.z (catalogue k.alpha k.delta))

-- the constant of aberration, 20.496″, in parts of R to the radian
abbrev pub aberration_parts : ℕ
aberration_parts = 99_367

-- what aberration adds: so many parts of each number, every quotient to nearest with the minus inside
unfoldable pub aberration : ℤ → ℕ → List ℤ
aberration ε g =
    scaled (pos aberration_parts) (Sin g)
    ∷ scaled (pos aberration_parts) (scaled (neg_ℤ (Cos g)) (cos_of ε))
    ∷ scaled (pos aberration_parts) (scaled (neg_ℤ (Cos g)) (sin_of ε))
    ∷ []

-- the sum of two directions
unfoldable pub plus : List ℤ → List ℤ → List ℤ
plus [] b = []
plus (x ∷ a) [] = []
plus (x ∷ a) (y ∷ b) = (x +ℤ y) ∷ plus a b

-- the apparent direction of Polaris, where g is the Sun's longitude by the centre terms alone
unfoldable pub direction : Epoch → ℤ → ℤ → ℤ → ℕ → List ℤ
direction e ε₀ Δψ ε g = plus (true_direction (elements_of (tropical_millionths e)) ε₀ Δψ ε) (aberration ε g)
