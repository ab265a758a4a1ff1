-- Document 01, "The Sun" (RULES.md, "The Sun"): the Sun's direction, of its reduced longitude s and the true obliquity ε.
use Rattle.std.specs.Prelude.{List, [], ◌∷◌, ℕ, ℤ, pos, neg_ℤ}
use Rattle.sine.specs.Sine.{Sin, Cos}
use Rattle.rotation.specs.Rotation.{rotated, rotation1}

-- in the plane of the ecliptic, rotated by R1(−ε) into the frame of the equator
unfoldable pub direction : ℕ → ℤ → List ℤ
direction s ε = rotated (rotation1 (neg_ℤ ε)) (Cos s ∷ Sin s ∷ pos 0 ∷ [])
