-- A rotated direction by its components. Each rotation keeps one component and changes the other two alike: (u, v) becomes (`along`, `across`), where (u, v) is
-- (y, z) for R1, (z, x) for R2 and (x, y) for R3.
use mathlib.Core.Path.{◌≡◌, refl, sym, ap, ap₂, ◌∙◌}
use mathlib.Core.List.{List, [], ◌∷◌}
use Prim.Native.Nat.{◌<◌, ◌^◌}
use native.Mathlib.Omega.{arith}
use lib.Dec.{lit<}
use lib.IntN.{ℤ, pos, neg_ℤ, nat_abs, ◌+ℤ◌, ◌-ℤ◌, ◌*ℤ◌, +ℤ_idl, +ℤ_idr, +ℤ_comm, zero-*ℤ}
use lib.ListN.{length, get_or}
use mir.Syntax.{w64}
use mir.Val.{SFits}
use Rattle.exact.specs.Reduction.{turn, reduced}
use Rattle.exact.specs.Division.{floor_div, nearest_div}
use Rattle.exact.proofs.Differences.{split, zs}
use Rattle.exact.proofs.Division.{nearest-multiple}
use Rattle.exact.proofs.Machine.{held, held-is, negated}
use Rattle.exact.proofs.Reduction.{reduced-lt, reduced-is, reduced-turns}
use Rattle.sine_table.specs.Table.{R}
use Rattle.sine.specs.Sine.{Sin, Cos}
use Rattle.sine.proofs.Extension.{sin-minus, cos-minus}
use Rattle.rotation.specs.Rotation.{dot, rotated, sin_of, cos_of, rotation1, rotation2, rotation3}

-- the two components that a rotation changes, of a cosine c and a sine s, over R, to nearest
abbrev pub along : ℤ → ℤ → ℤ → ℤ → ℤ
along c s u v = nearest_div (c *ℤ u +ℤ s *ℤ v) R

abbrev pub across : ℤ → ℤ → ℤ → ℤ → ℤ
across c s u v = nearest_div (neg_ℤ s *ℤ u +ℤ c *ℤ v) R

-- R times a component, over R
whole : (x : ℤ) → nearest_div (pos R *ℤ x) R ≡ x
whole x = nearest-multiple x R (lit< tt)

-- ---- the three rotations
module _ (a x y z : ℤ) where
  pub rotated-1 : rotated (rotation1 a) (x ∷ y ∷ z ∷ []) ≡ x ∷ along (cos_of a) (sin_of a) y z ∷ across (cos_of a) (sin_of a) y z ∷ []
  unfolding rotated rotation1 dot
  rotated-1 = simp (zero-*ℤ, +ℤ_idl, +ℤ_idr, whole)

  pub rotated-2 : rotated (rotation2 a) (x ∷ y ∷ z ∷ []) ≡ across (cos_of a) (sin_of a) z x ∷ y ∷ along (cos_of a) (sin_of a) z x ∷ []
  unfolding rotated rotation2 dot
  rotated-2 =
      simp (zero-*ℤ, +ℤ_idl, +ℤ_idr, whole)
      (ap₂ (λ (p q : ℤ). nearest_div p R ∷ y ∷ nearest_div q R ∷ []) (+ℤ_comm (cos_of a *ℤ x) (neg_ℤ (sin_of a) *ℤ z)) (+ℤ_comm (sin_of a *ℤ x) (cos_of a *ℤ z)))

  pub rotated-3 : rotated (rotation3 a) (x ∷ y ∷ z ∷ []) ≡ along (cos_of a) (sin_of a) x y ∷ across (cos_of a) (sin_of a) x y ∷ z ∷ []
  unfolding rotated rotation3 dot
  rotated-3 = simp (zero-*ℤ, +ℤ_idl, +ℤ_idr, whole)

-- ---- the opposite angle
minus : (z : ℤ) → reduced (neg_ℤ z) ≡ reduced (neg_ℤ (pos (reduced z)))
minus z =
    ap reduced (go z (floor_div z turn) (pos (reduced z)) (reduced-is z)) ∙ reduced-turns (neg_ℤ (pos (reduced z))) (neg_ℤ (floor_div z turn))
  where
    go : (z q r : ℤ) → z ≡ pos turn *ℤ q +ℤ r → neg_ℤ z ≡ neg_ℤ r +ℤ pos turn *ℤ neg_ℤ q
    go z q r = rw (split z, split q, split r) (simp zs (omega arith))

pub sin-neg : (a : ℤ) → sin_of (neg_ℤ a) ≡ neg_ℤ (sin_of a)
sin-neg a = ap Sin (minus a) ∙ sin-minus (reduced a) (reduced-lt a)

pub cos-neg : (a : ℤ) → cos_of (neg_ℤ a) ≡ cos_of a
cos-neg a = ap Cos (minus a) ∙ cos-minus (reduced a) (reduced-lt a)

-- a rotation by −z, as the code hands the angle over
pub rotated-back : (f : ℤ → List (List ℤ)) (z : ℤ) {m : List (List ℤ)} → SFits w64 z → nat_abs z < 2 ^ 62 → m ≡ f (held (pos 0 -ℤ held z)) → m ≡ f (neg_ℤ z)
rotated-back f z fits h e = let n = negated z h in (simp (held-is, fits, n.0) at e) ∙ ap f n.1

-- ---- a list of three, and a rotated direction from the three calls
pub three : {X : Type 0} (d : X) (l : List X) → length l ≡ 3 → l ≡ get_or l 0 d ∷ get_or l 1 d ∷ get_or l 2 d ∷ []
three d [] e = absurd (omega arith)
three d (a ∷ []) e = absurd (omega arith)
three d (a ∷ b ∷ []) e = absurd (omega arith)
three d (a ∷ b ∷ c ∷ []) e = refl
three d (a ∷ b ∷ c ∷ x ∷ l) e = absurd (omega arith)

pub rotated-is : (m : List (List ℤ)) (d : List ℤ) → length m ≡ 3
    → nearest_div (dot (get_or m 0 []) d) R ∷ nearest_div (dot (get_or m 1 []) d) R ∷ nearest_div (dot (get_or m 2 []) d) R ∷ [] ≡ rotated m d
unfolding rotated
rotated-is m d l = sym (ap (λ (n : List (List ℤ)). rotated n d) (three [] m l))
