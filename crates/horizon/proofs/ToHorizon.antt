-- Up, east and north are the components of a direction rotated by R2(−φ).
use mathlib.Core.Path.{◌≡◌, ap, ap₂, ◌∙◌}
use mathlib.Core.List.{List, [], ◌∷◌}
use native.Mathlib.Omega.{arith}
use lib.IntN.{ℤ, pos, neg_ℤ, ◌+ℤ◌, ◌-ℤ◌, ◌*ℤ◌}
use lib.ListN.{length}
use Rattle.exact.specs.Division.{nearest_div}
use Rattle.exact.specs.Nth.{nth}
use Rattle.exact.proofs.Differences.{split, zs}
use Rattle.sine_table.specs.Table.{R}
use Rattle.rotation.specs.Rotation.{rotated, sin_of, cos_of, rotation2}
use Rattle.rotation.proofs.Components.{rotated-2, sin-neg, cos-neg, three}
use Rattle.horizon.specs.Horizon.{up, north, to_horizon}

pub to-horizon-is : (φ : ℤ) (m : List ℤ) → length m ≡ 3 → rotated (rotation2 (neg_ℤ φ)) m ≡ to_horizon φ m
unfolding to_horizon up north
to-horizon-is φ m l =
    ap (rotated (rotation2 (neg_ℤ φ))) (three (pos 0) m l) ∙ rotated-2 (neg_ℤ φ) (nth m 0) (nth m 1) (nth m 2)
    ∙ rw (sin-neg φ, cos-neg φ)
    (ap₂ (λ (u n : ℤ). nearest_div u R ∷ nth m 1 ∷ nearest_div n R ∷ []) (up_is (cos_of φ) (sin_of φ) (nth m 0) (nth m 2)) (north-is (cos_of φ) (sin_of φ) (nth m 0) (nth m 2)))
  where
    up_is : (c s x z : ℤ) → neg_ℤ (neg_ℤ s) *ℤ z +ℤ c *ℤ x ≡ x *ℤ c +ℤ z *ℤ s
    up_is c s x z = rw (split c, split s, split x, split z) (simp zs (omega arith))

    north-is : (c s x z : ℤ) → c *ℤ z +ℤ neg_ℤ s *ℤ x ≡ z *ℤ c -ℤ x *ℤ s
    north-is c s x z = rw (split c, split s, split x, split z) (simp zs (omega arith))
