-- The chord of a power. Between two numbers t₀ and t₁, the straight line from t₀ ^ m to t₁ ^ m lies above t ^ m, and by how much is computed here:
-- exactly (`chord`), and at most (`over-le`). For any power and any two numbers; the table's step is s = u + v.
use mathlib.Core.Path.{◌≡◌, sym, ap, ◌∙◌, subst, subst₂}
use Prim.Native.Nat.{ℕ, zero, suc, ◌+◌, ◌*◌, ◌^◌, ◌≤◌, zero-le}
use native.Mathlib.Nat.{pow-zero, pow-suc, pow-le-pow_left, mul-le-mul, mul-le-mul_left, le_trans, le_of_eq, add-le-add}
use native.Mathlib.Omega.{arith}
use Rattle.exact.proofs.Products.{four}

-- ---- bounds that antt computes: x is at least t₁, h is c · s, k is c · s · s

abbrev pub gap-bound : ℕ → ℕ → ℕ → ℕ
gap-bound h x zero = 0
gap-bound h x (suc m) = x * gap-bound h x m + h * x ^ m

abbrev pub over-bound : ℕ → ℕ → ℕ → ℕ → ℕ
over-bound k h x zero = 0
over-bound k h x (suc m) = x * over-bound k h x m + k * gap-bound h x m

-- ---- the steps of the inductions, in plain numbers

gap_step : (c u v x p g : ℕ) → (p + g) * (x + c * u + c * v) ≡ p * x + ((x + c * u + c * v) * g + c * (u + v) * p)
gap_step c u v x p g = omega arith

over-step : (c u v x p g w o : ℕ) → u * p + v * (p + g) ≡ (u + v) * w + o
    → u * (p * x) + v * ((p + g) * (x + c * u + c * v)) ≡ (u + v) * (w * (x + c * v)) + ((x + c * v) * o + c * (u * v) * g)
over-step c u v x p g w o h = omega (arith, ap (λ (n : ℕ). n * (x + c * v)) h)

module _ (c u v x : ℕ) where
  abbrev pub t₁ : ℕ
  t₁ = x + c * u + c * v

  abbrev pub t : ℕ
  t = x + c * v

  -- t₁ ^ m less x ^ m
  abbrev pub gap : ℕ → ℕ
  gap zero = 0
  gap (suc m) = t₁ * gap m + c * (u + v) * x ^ m

  -- by how much the chord lies above t ^ m, times u + v
  abbrev pub over : ℕ → ℕ
  over zero = 0
  over (suc m) = t * over m + c * (u * v) * gap m

  gap_is : (m : ℕ) → t₁ ^ m ≡ x ^ m + gap m
  gap_is zero = pow-zero t₁ ∙ sym (ap (λ (n : ℕ). n + 0) (pow-zero x))
  gap_is (suc m) =
      pow-suc t₁ m ∙ ap (λ (n : ℕ). n * t₁) (gap_is m) ∙ gap_step c u v x (x ^ m) (gap m)
      ∙ ap (λ (n : ℕ). n + gap (suc m)) (sym (pow-suc x m))

  pub chord : (m : ℕ) → u * x ^ m + v * t₁ ^ m ≡ (u + v) * t ^ m + over m
  chord zero =
      subst₂ (λ (a b : ℕ). u * a + v * b ≡ (u + v) * t ^ 0 + 0) (sym (pow-zero x)) (sym (pow-zero t₁))
      (subst (λ (a : ℕ). u * 1 + v * 1 ≡ (u + v) * a + 0) (sym (pow-zero t)) (omega arith))
  chord (suc m) =
      ap (λ (n : ℕ). u * n + v * t₁ ^ suc m) (pow-suc x m)
      ∙ ap (λ (n : ℕ). u * (x ^ m * x) + v * n) (pow-suc t₁ m ∙ ap (λ (n : ℕ). n * t₁) (gap_is m))
      ∙ over-step c u v x (x ^ m) (gap m) (t ^ m) (over m) (ap (λ (n : ℕ). u * x ^ m + v * n) (sym (gap_is m)) ∙ chord m)
      ∙ ap (λ (n : ℕ). (u + v) * n + over (suc m)) (sym (pow-suc t m))

  module _ (top : ℕ) (below : t₁ ≤ top) where
    x_below : x ≤ top
    x_below = le_trans (omega arith) below

    t-below : t ≤ top
    t-below = le_trans (omega arith) below

    gap-le : (m : ℕ) → gap m ≤ gap-bound (c * (u + v)) top m
    gap-le zero = zero-le
    gap-le (suc m) = add-le-add (mul-le-mul below (gap-le m)) (mul-le-mul_left (c * (u + v)) (pow-le-pow_left x_below m))

    -- four times what the chord is above
    pub over-le : (m : ℕ) → 4 * over m ≤ over-bound (c * ((u + v) * (u + v))) (c * (u + v)) top m
    over-le zero = zero-le
    over-le (suc m) =
        le_trans (le_of_eq split)
        (add-le-add (mul-le-mul t-below (over-le m)) (mul-le-mul (mul-le-mul_left c (four u v)) (gap-le m)))
      where
        split : 4 * (t * over m + c * (u * v) * gap m) ≡ t * (4 * over m) + c * (4 * (u * v)) * gap m
        split = regroup t (over m) c (u * v) (gap m)
          where
            regroup : (a b d e f : ℕ) → 4 * (a * b + d * e * f) ≡ a * (4 * b) + d * (4 * e) * f
            regroup a b d e f = omega arith
