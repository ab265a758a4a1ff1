-- Document 01, "Polaris" (RULES.md, "Rotations"): R1, R2 and R3, and a direction rotated by one of them. A direction is its three components, a rotation its
-- three rows.
use Rattle.std.specs.Prelude.{List, [], ◌∷◌, map, ℤ, pos, neg_ℤ, ◌+ℤ◌, ◌*ℤ◌}
use Rattle.exact.specs.Reduction.{reduced}
use Rattle.exact.specs.Division.{nearest_div}
use Rattle.sine_table.specs.Table.{R}
use Rattle.sine.specs.Sine.{Sin, Cos}

-- the sum of the products of a row and a direction
unfoldable pub dot : List ℤ → List ℤ → ℤ
dot [] ys = pos 0
dot (x ∷ xs) [] = pos 0
dot (x ∷ xs) (y ∷ ys) = x *ℤ y +ℤ dot xs ys

-- a component is the sum of its row's products, divided by R and rounded once. The axis' own row has R where the axis stands, so that its
-- component stays (`rotated-1`).
unfoldable pub rotated : List (List ℤ) → List ℤ → List ℤ
rotated m d = map (λ row. nearest_div (dot row d) R) m

-- Sin and Cos of an angle that need not be reduced
abbrev pub sin_of : ℤ → ℤ
sin_of a = Sin (reduced a)

abbrev pub cos_of : ℤ → ℤ
cos_of a = Cos (reduced a)

-- R1(a), about the first axis
unfoldable pub rotation1 : ℤ → List (List ℤ)
rotation1 a =
    (pos R ∷ pos 0 ∷ pos 0 ∷ [])
    ∷ (pos 0 ∷ cos_of a ∷ sin_of a ∷ [])
    ∷ (pos 0 ∷ neg_ℤ (sin_of a) ∷ cos_of a ∷ [])
    ∷ []

-- R2(a), about the second
unfoldable pub rotation2 : ℤ → List (List ℤ)
rotation2 a =
    (cos_of a ∷ pos 0 ∷ neg_ℤ (sin_of a) ∷ [])
    ∷ (pos 0 ∷ pos R ∷ pos 0 ∷ [])
    ∷ (sin_of a ∷ pos 0 ∷ cos_of a ∷ [])
    ∷ []

-- R3(a), about the third
unfoldable pub rotation3 : ℤ → List (List ℤ)
rotation3 a =
    (cos_of a ∷ sin_of a ∷ pos 0 ∷ [])
    ∷ (neg_ℤ (sin_of a) ∷ cos_of a ∷ pos 0 ∷ [])
    ∷ (pos 0 ∷ pos 0 ∷ pos R ∷ [])
    ∷ []
