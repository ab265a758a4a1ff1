-- The sizes that the code stands on: an entry of a rotation is at most R and a component at most 1.5·R, so that a row's sum of products fits.
use mathlib.Core.Path.{◌≡◌, refl, ap₂, sym, ◌∙◌}
use mathlib.Core.List.{List, [], ◌∷◌}
use Prim.Native.Nat.{ℕ, zero, suc, ◌*◌, ◌≤◌}
use native.Mathlib.Nat.{le_refl}
use native.Mathlib.Omega.{arith}
use lib.IntN.{ℤ, pos, neg_ℤ, nat_abs, ◌+ℤ◌, ◌*ℤ◌}
use lib.ListN.{length, get_or}
use mir.Syntax.{w64}
use mir.Val.{SFits}
use Rattle.exact.specs.Reduction.{reduced}
use Rattle.exact.specs.Nth.{nth}
use Rattle.exact.proofs.Differences.{split, zs}
use Rattle.exact.proofs.Products.{root-le}
use Rattle.exact.proofs.Integers.{abs_neg, abs-*-le}
use Rattle.exact.proofs.Machine.{held, held-is, fits_le}
use Rattle.exact.proofs.Reduction.{reduced-lt}
use Rattle.sine_table.specs.Table.{R}
use Rattle.sine.proofs.Monotonicity.{sin-range, cos-range}
use Rattle.rotation.specs.Rotation.{dot, sin_of, cos_of, rotation1, rotation2, rotation3}
use Rattle.rotation.specs.Length.{Rotation, axis1, axis2, axis3, squared_length}
use Rattle.rotation.specs.Sizes.{Bounded, reach, component_most, sum_most}
use Rattle.rotation.proofs.Components.{three}

-- ---- a list of three, and of three rows
pub bounded : (k : ℕ) (x y z : ℤ) → nat_abs x ≤ k → nat_abs y ≤ k → nat_abs z ≤ k → Bounded k (x ∷ y ∷ z ∷ [])
bounded k x y z hx hy hz zero = hx
bounded k x y z hx hy hz (suc zero) = hy
bounded k x y z hx hy hz (suc (suc zero)) = hz
bounded k x y z hx hy hz (suc (suc (suc i))) = omega arith

rows : (p q r : List ℤ) → Bounded R p → Bounded R q → Bounded R r → (i : ℕ) → Bounded R (get_or (p ∷ q ∷ r ∷ []) i [])
rows p q r hp hq hr zero = hp
rows p q r hp hq hr (suc zero) = hq
rows p q r hp hq hr (suc (suc zero)) = hr
rows p q r hp hq hr (suc (suc (suc i))) = λ j. omega arith

-- ---- a sine, a cosine and a sine with its sign changed
module _ (a : ℤ) where
  sin-le : nat_abs (sin_of a) ≤ R
  sin-le = sin-range (reduced a) (omega (arith, reduced-lt a))

  cos-le : nat_abs (cos_of a) ≤ R
  cos-le = cos-range (reduced a) (reduced-lt a)

  neg-le : nat_abs (neg_ℤ (sin_of a)) ≤ R
  neg-le = rw abs_neg sin-le

-- as the machine holds the numbers that `Sines::of` gives
pub sines-held : (a : ℤ) {c s m : ℤ} → SFits w64 a → (c ≡ cos_of (held a)) × (s ≡ sin_of (held a)) × (m ≡ neg_ℤ (sin_of (held a)))
    → (held c ≡ cos_of a) × (held s ≡ sin_of a) × (held m ≡ neg_ℤ (sin_of a))
sines-held a fits e =
    let is = simp (held-is, fits) at e in
    rw (is.0, is.1, is.2)
    (held-is _ (fits_le R _ (cos-le a) refl), held-is _ (fits_le R _ (sin-le a) refl), held-is _ (fits_le R _ (neg-le a) refl))

-- ---- the entries of a rotation
pub entries-le : {m : List (List ℤ)} → Rotation m → (i : ℕ) → Bounded R (get_or m i [])
unfolding rotation1 rotation2 rotation3
entries-le (axis1 a) =
    rows _ _ _ (bounded R _ _ _ (le_refl R) (omega arith) (omega arith)) (bounded R _ _ _ (omega arith) (cos-le a) (sin-le a))
    (bounded R _ _ _ (omega arith) (neg-le a) (cos-le a))
entries-le (axis2 a) =
    rows _ _ _ (bounded R _ _ _ (cos-le a) (omega arith) (neg-le a)) (bounded R _ _ _ (omega arith) (le_refl R) (omega arith))
    (bounded R _ _ _ (sin-le a) (omega arith) (cos-le a))
entries-le (axis3 a) =
    rows _ _ _ (bounded R _ _ _ (cos-le a) (sin-le a) (omega arith)) (bounded R _ _ _ (neg-le a) (cos-le a) (omega arith))
    (bounded R _ _ _ (omega arith) (omega arith) (le_refl R))

-- ---- the components of a direction
component-le : (n : ℕ) → n * n ≤ reach → n ≤ component_most
component-le n h = root-le n component_most (omega arith)

pub components-le : (d : List ℤ) → squared_length d ≤ reach → Bounded component_most d
unfolding squared_length
components-le [] h i = omega arith
components-le (x ∷ d) h zero = component-le (nat_abs x) (omega arith)
components-le (x ∷ d) h (suc i) = components-le d (omega arith) i

-- ---- the sum of a row's products: the i-th, all that the sum asks, and what it is
abbrev pub product : List ℤ → List ℤ → ℕ → ℤ
product xs ys i = nth xs i *ℤ nth ys i

abbrev pub Sums : ℤ → ℤ → ℤ → Type 0
Sums p q r = SFits w64 p × SFits w64 q × SFits w64 r × SFits w64 (p +ℤ q) × SFits w64 (p +ℤ q +ℤ r) × (nat_abs (p +ℤ q +ℤ r) ≤ sum_most)

sums : (p q r : ℤ) → nat_abs p ≤ R * component_most → nat_abs q ≤ R * component_most → nat_abs r ≤ R * component_most → Sums p q r
sums p q r = rw (split p, split q, split r) (simp zs (omega arith))

module _ (xs ys : List ℤ) (hx : Bounded R xs) (hy : Bounded component_most ys) where
  product_le : (i : ℕ) → nat_abs (product xs ys i) ≤ R * component_most
  product_le i = abs-*-le (nth xs i) (nth ys i) R component_most (hx i) (hy i)

  pub sums-fit : Sums (product xs ys 0) (product xs ys 1) (product xs ys 2)
  sums-fit = sums (product xs ys 0) (product xs ys 1) (product xs ys 2) (product_le 0) (product_le 1) (product_le 2)

  pub entry-fits : (i : ℕ) → SFits w64 (nth xs i)
  entry-fits i = fits_le R (nth xs i) (hx i) refl

  pub component-fits : (i : ℕ) → SFits w64 (nth ys i)
  component-fits i = fits_le component_most (nth ys i) (hy i) refl

regroup : (p q r : ℤ) → p +ℤ q +ℤ r ≡ p +ℤ (q +ℤ (r +ℤ pos 0))
regroup p q r = rw (split p, split q, split r) (simp zs (omega arith))

pub dot-is : (xs ys : List ℤ) → length xs ≡ 3 → length ys ≡ 3 → product xs ys 0 +ℤ product xs ys 1 +ℤ product xs ys 2 ≡ dot xs ys
unfolding dot
dot-is xs ys l k =
    regroup (product xs ys 0) (product xs ys 1) (product xs ys 2) ∙ sym (ap₂ dot (three (pos 0) xs l) (three (pos 0) ys k))
