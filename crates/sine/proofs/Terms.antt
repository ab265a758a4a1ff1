-- The chords of the polynomial's terms, and that on 0..Q no more is taken away than is added.
-- For any step s = u + v; a₀ is the interval's start, a₀ + v the angle, a₀ + u + v the interval's end.
use mathlib.Core.Path.{◌≡◌, sym, ap, ◌∙◌, subst₂}
use mathlib.Core.List.{List, [], ◌∷◌}
use Prim.Native.Nat.{ℕ, suc, ◌+◌, ◌*◌, ◌^◌, ◌≤◌, zero-le}
use native.Mathlib.Nat.{pow-suc, mul-le-mul, mul-le-mul_left, mul-le-mul_right, le_trans, le_of_eq, mul-add}
use native.Mathlib.Omega.{arith}
use lib.Dec.{T, leb, leb→le}
use Rattle.exact.specs.Reduction.{Q}
use Rattle.sine_table.specs.SinePolynomial.{arc, whole, cofactor, term, terms, plus, minus}
use Rattle.sine.proofs.Chord.{t, t₁, over, chord, over-le, over-bound}

-- ---- chords

-- the chord's height over a list of terms, and a bound of it that antt computes
abbrev pub overs : (u v a₀ : ℕ) → List ℕ → ℕ
overs u v a₀ [] = 0
overs u v a₀ (m ∷ ms) = over arc u v (arc * a₀) m * cofactor m + overs u v a₀ ms

unfoldable pub overs-bound : ℕ → List ℕ → ℕ
overs-bound s [] = 0
overs-bound s (m ∷ ms) = over-bound (arc * (s * s)) (arc * s) (arc * Q) m * cofactor m + overs-bound s ms

weigh : (u v p q r o k : ℕ) → u * p + v * q ≡ (u + v) * r + o → u * (p * k) + v * (q * k) ≡ (u + v) * (r * k) + o * k
weigh u v p q r o k h = omega (arith, ap (λ (n : ℕ). n * k) h)

join : (u v p q r o p' q' r' o' : ℕ) → u * p + v * q ≡ (u + v) * r + o → u * p' + v * q' ≡ (u + v) * r' + o'
    → u * (p + p') + v * (q + q') ≡ (u + v) * (r + r') + (o + o')
join u v p q r o p' q' r' o' h h' = omega arith

four-sum : (o k b o' b' : ℕ) → 4 * o ≤ b → 4 * o' ≤ b' → 4 * (o * k + o') ≤ b * k + b'
four-sum o k b o' b' h h' = omega (arith, mul-le-mul_right k h)

module _ (u v a₀ : ℕ) where
  mid-is : arc * (a₀ + v) ≡ t arc u v (arc * a₀)
  mid-is = mul-add arc a₀ v

  end_is : arc * (a₀ + u + v) ≡ t₁ arc u v (arc * a₀)
  end_is = mul-add arc (a₀ + u) v ∙ ap (λ (n : ℕ). n + arc * v) (mul-add arc a₀ u)

  term-chord : (m : ℕ) → u * term a₀ m + v * term (a₀ + u + v) m ≡ (u + v) * term (a₀ + v) m + over arc u v (arc * a₀) m * cofactor m
  unfolding term
  term-chord m =
      subst₂ (λ (y z : ℕ). u * ((arc * a₀) ^ m * cofactor m) + v * (y ^ m * cofactor m) ≡ (u + v) * (z ^ m * cofactor m) + over arc u v (arc * a₀) m * cofactor m)
      (sym end_is) (sym mid-is)
      (weigh u v ((arc * a₀) ^ m) (t₁ arc u v (arc * a₀) ^ m) (t arc u v (arc * a₀) ^ m) (over arc u v (arc * a₀) m) (cofactor m)
      (chord arc u v (arc * a₀) m))

  pub terms-chord : (ms : List ℕ) → u * terms a₀ ms + v * terms (a₀ + u + v) ms ≡ (u + v) * terms (a₀ + v) ms + overs u v a₀ ms
  terms-chord [] = omega arith
  terms-chord (m ∷ ms) =
      join u v (term a₀ m) (term (a₀ + u + v) m) (term (a₀ + v) m) (over arc u v (arc * a₀) m * cofactor m)
      (terms a₀ ms) (terms (a₀ + u + v) ms) (terms (a₀ + v) ms) (overs u v a₀ ms) (term-chord m) (terms-chord ms)

  module _ (below : a₀ + u + v ≤ Q) where
    top : t₁ arc u v (arc * a₀) ≤ arc * Q
    top = le_trans (le_of_eq (sym end_is)) (mul-le-mul_left arc below)

    pub overs-le : (ms : List ℕ) → 4 * overs u v a₀ ms ≤ overs-bound (u + v) ms
    unfolding overs-bound
    overs-le [] = zero-le
    overs-le (m ∷ ms) =
        four-sum (over arc u v (arc * a₀) m) (cofactor m) (over-bound (arc * ((u + v) * (u + v))) (arc * (u + v)) (arc * Q) m)
        (overs u v a₀ ms) (overs-bound (u + v) ms) (over-le arc u v (arc * a₀) (arc * Q) top m) (overs-le ms)

-- ---- each term is at most the one before it, on 0..Q

-- a test that antt computes: (arc · Q)² is at most what the next term's cofactor falls by
falls : (m : ℕ) → T (leb (arc * Q * (arc * Q) * cofactor (suc (suc m))) (cofactor m)) → (a : ℕ) → a ≤ Q → term a (suc (suc m)) ≤ term a m
unfolding term
falls m c a h =
    le_trans (le_of_eq (ap (λ (n : ℕ). n * cofactor (suc (suc m))) (pow-suc (arc * a) (suc m) ∙ ap (λ (n : ℕ). n * (arc * a)) (pow-suc (arc * a) m))
    ∙ regroup ((arc * a) ^ m) (arc * a) (cofactor (suc (suc m)))))
    (mul-le-mul_left ((arc * a) ^ m)
    (le_trans (mul-le-mul_right (cofactor (suc (suc m))) (mul-le-mul (mul-le-mul_left arc h) (mul-le-mul_left arc h)))
    (leb→le _ _ c)))
  where
    regroup : (p x k : ℕ) → p * x * x * k ≡ p * (x * x * k)
    regroup p x k = omega arith

pub minus-le-plus : (a : ℕ) → a ≤ Q → terms a minus ≤ terms a plus
unfolding cofactor arc whole
minus-le-plus a h = four-pairs (term a 1) (term a 3) (term a 5) (term a 7) (term a 9) (term a 11) (term a 13) (term a 15) (term a 17) (falls 1 tt a h) (falls 5 tt a h) (falls 9 tt a h) (falls 13 tt a h)
  where
    four-pairs : (a b c d e f g k l : ℕ) → b ≤ a → d ≤ c → f ≤ e → k ≤ g → b + (d + (f + (k + 0))) ≤ a + (c + (e + (g + (l + 0))))
    four-pairs a b c d e f g k l p q r s = omega arith
