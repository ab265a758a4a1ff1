-- One bound over all angles and all axes: a rotation enlarges the squared length of a direction by 7.408·R + 3 at most, where that is at most 2·R². So ten rotations
-- in a row, from a direction of length R, leave it shorter than R + 38. It rests on `pythagoras` of the sine: Sin² + Cos² is at most R² + 2.704·R.
use mathlib.Core.Path.{◌≡◌, refl, sym, ap, ap₂, ◌∙◌}
use mathlib.Core.List.{List, [], ◌∷◌}
use Prim.Native.Nat.{ℕ, ◌+◌, ◌*◌, ◌≤◌, ◌<◌}
use native.Mathlib.Nat.{mul-le-mul, mul-le-mul_left}
use native.Mathlib.Omega.{arith}
use lib.Dec.{lit<}
use lib.IntN.{ℤ, pos, negsuc, neg_ℤ, nat_abs, ◌+ℤ◌, ◌*ℤ◌}
use lib.ListN.{length, get_or}
use Rattle.exact.specs.Division.{nearest_div}
use Rattle.exact.specs.Reduction.{turn, reduced}
use Rattle.exact.proofs.Differences.{split, zs}
use Rattle.exact.proofs.Products.{twice, root-le}
use Rattle.exact.proofs.Integers.{abs_neg, abs-*}
use Rattle.exact.proofs.Division.{nearest-size}
use Rattle.exact.proofs.Reduction.{reduced-lt}
use Rattle.sine_table.specs.Table.{R}
use Rattle.sine.specs.Sine.{Sin, Cos}
use Rattle.sine.specs.SineContract.{circle_most}
use Rattle.sine.proofs.Pythagoras.{pythagoras}
use Rattle.rotation.specs.Rotation.{rotated, sin_of, cos_of}
use Rattle.rotation.specs.Length.{squared_length, Rotation, axis1, axis2, axis3, growth}
use Rattle.rotation.specs.Sizes.{reach}
use Rattle.rotation.proofs.Components.{along, across, rotated-1, rotated-2, rotated-3, three}

-- ---- a pair of components, before it is rounded: its length by that of (u, w) and of (c, s)
norm : ℤ → ℤ → ℕ
norm x y = nat_abs x * nat_abs x + nat_abs y * nat_abs y

square : (x : ℤ) → pos (nat_abs x * nat_abs x) ≡ x *ℤ x
square (pos n) = refl
square (negsuc n) = refl

-- the square of a sum, where the products of the two sums are opposite
norm-sums : (p q r t : ℤ) → p *ℤ q +ℤ r *ℤ t ≡ pos 0 → norm (p +ℤ q) (r +ℤ t) ≡ norm p q + norm r t
unfolding norm
norm-sums p q r t e =
    ap nat_abs
    (ap₂ ◌+ℤ◌ (square (p +ℤ q)) (square (r +ℤ t)) ∙ go p q r t e ∙ sym (ap₂ ◌+ℤ◌ (ap₂ ◌+ℤ◌ (square p) (square q)) (ap₂ ◌+ℤ◌ (square r) (square t))))
  where
    go : (p q r t : ℤ) → p *ℤ q +ℤ r *ℤ t ≡ pos 0
        → (p +ℤ q) *ℤ (p +ℤ q) +ℤ (r +ℤ t) *ℤ (r +ℤ t) ≡ p *ℤ p +ℤ q *ℤ q +ℤ (r *ℤ r +ℤ t *ℤ t)
    go p q r t = rw (split p, split q, split r, split t) (simp zs (omega arith))

opposite : (c s u w : ℤ) → c *ℤ u *ℤ (s *ℤ w) +ℤ neg_ℤ s *ℤ u *ℤ (c *ℤ w) ≡ pos 0
opposite c s u w = rw (split c, split s, split u, split w) (simp zs (omega arith))

norms : (c s u w : ℤ) → norm (c *ℤ u +ℤ s *ℤ w) (neg_ℤ s *ℤ u +ℤ c *ℤ w) ≡ norm u w * norm c s
unfolding norm
norms c s u w = norm-sums (c *ℤ u) (s *ℤ w) (neg_ℤ s *ℤ u) (c *ℤ w) (opposite c s u w) ∙ simp (abs-*, abs_neg) (go (nat_abs c) (nat_abs s) (nat_abs u) (nat_abs w))
  where
    go : (c s u w : ℕ) → c * u * (c * u) + s * w * (s * w) + (s * u * (s * u) + c * w * (c * w)) ≡ (u * u + w * w) * (c * c + s * s)
    go c s u w = omega arith

-- ---- rounding: by half a unit
pub rounded : (z : ℤ) → 2 * R * nat_abs (nearest_div z R) ≤ 2 * nat_abs z + R
rounded z = nearest-size z R (lit< tt)

-- ---- of naturals: a sum of two, by the sum of their squares
sum-le : (a b : ℕ) → a * a + b * b ≤ reach * circle_most → a + b ≤ 2 * (R * R) + 3 * R
sum-le a b h = root-le (a + b) (2 * (R * R) + 3 * R) (omega (arith, twice a b))

-- two numbers over R, each rounded: p and q are a / R and b / R and half a unit more at most
rounded-squares : (a b p q n : ℕ) → 2 * R * p ≤ 2 * a + R → 2 * R * q ≤ 2 * b + R → a * a + b * b ≤ n * circle_most → n ≤ reach
    → p * p + q * q ≤ n + growth
rounded-squares a b p q n h k l m =
    go (p * p + q * q) (a * a + b * b) (a + b) (both (mul-le-mul h h) (mul-le-mul k k)) l (sum-le a b (omega arith))
  where
    both : 2 * R * p * (2 * R * p) ≤ (2 * a + R) * (2 * a + R) → 2 * R * q * (2 * R * q) ≤ (2 * b + R) * (2 * b + R)
        → 2 * R * (2 * R * (p * p + q * q)) ≤ 4 * (a * a + b * b) + 4 * R * (a + b) + 2 * (R * R)
    both h k = omega arith

    go : (P A S : ℕ) → 2 * R * (2 * R * P) ≤ 4 * A + 4 * R * S + 2 * (R * R) → A ≤ n * circle_most → S ≤ 2 * (R * R) + 3 * R → P ≤ n + growth
    go P A S h k l = omega arith

-- ---- a pair of components, rotated by any angle
pair : (a u w : ℤ) → norm u w ≤ reach → norm (along (cos_of a) (sin_of a) u w) (across (cos_of a) (sin_of a) u w) ≤ norm u w + growth
unfolding norm
pair a u w h =
    let c = cos_of a in
    let s = sin_of a in
    rounded-squares (nat_abs (c *ℤ u +ℤ s *ℤ w)) (nat_abs (neg_ℤ s *ℤ u +ℤ c *ℤ w)) _ _ (norm u w) (rounded (c *ℤ u +ℤ s *ℤ w)) (rounded (neg_ℤ s *ℤ u +ℤ c *ℤ w))
    (rw (norms c s u w) (mul-le-mul_left (norm u w) circle)) h
  where
    circle : norm (cos_of a) (sin_of a) ≤ circle_most
    circle = omega (arith, (pythagoras (reduced a) (reduced-lt a)).most)

-- ---- any rotation
pub grows : {m : List (List ℤ)} → Rotation m → (d : List ℤ) → length d ≡ 3 → squared_length d ≤ reach → squared_length (rotated m d) ≤ squared_length d + growth
unfolding squared_length norm
grows r d l h = rw (three (pos 0) d l) (by r (get_or d 0 (pos 0)) (get_or d 1 (pos 0)) (get_or d 2 (pos 0)) (rw (three (pos 0) d l) at h))
  where
    by : {m : List (List ℤ)} → Rotation m → (x y z : ℤ) → squared_length (x ∷ y ∷ z ∷ []) ≤ reach → squared_length (rotated m (x ∷ y ∷ z ∷ [])) ≤ squared_length (x ∷ y ∷ z ∷ []) + growth
    by (axis1 a) x y z h = rw (rotated-1 a x y z) (omega (arith, pair a y z (omega arith)))
    by (axis2 a) x y z h = rw (rotated-2 a x y z) (omega (arith, pair a z x (omega arith)))
    by (axis3 a) x y z h = rw (rotated-3 a x y z) (omega (arith, pair a x y (omega arith)))

-- ---- a cosine and a sine of one angle: a direction in the plane of two axes
module _ (a : ℕ) {x y : ℤ} (h : a < turn) (p : x ≡ Cos a) (q : y ≡ Sin a) where
  pub plane-xy : squared_length (x ∷ y ∷ pos 0 ∷ []) ≤ circle_most
  unfolding squared_length
  plane-xy = rw (p, q) (omega (arith, (pythagoras a h).most))

  pub plane-xz : squared_length (x ∷ pos 0 ∷ y ∷ []) ≤ circle_most
  unfolding squared_length
  plane-xz = rw (p, q) (omega (arith, (pythagoras a h).most))
