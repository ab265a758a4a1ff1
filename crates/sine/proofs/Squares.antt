-- Sums of two squares along a chord, in plain numbers. x = e·u + e'·v and y = f·v + f'·u with u + v = s; S and C are nearest to x / s and y / s. The square of
-- a mean is at most the mean of the squares (`convex`), and short of it by at most a quarter of the squared difference (`concave`): so S² + C² is enclosed by
-- what holds at the chord's ends, (e, f') and (e', f), and the roundings (`above`, `below`).
use mathlib.Core.Path.{◌≡◌, ap}
use Prim.Native.Nat.{ℕ, ◌+◌, ◌*◌, ◌≤◌, ◌<◌}
use native.Mathlib.Nat.{mul-le-mul, mul-le-mul_left, mul-le-mul_right, le_of_suc-le-suc, le_of_mul-le-mul_left, lt_of_mul-lt-mul_left, mul-pos}
use native.Mathlib.Omega.{arith}
use Rattle.exact.proofs.Products.{four, twice}
use Rattle.exact.proofs.Division.{Rounds}

convex : (s u v e e' : ℕ) → u + v ≡ s → (e * u + e' * v) * (e * u + e' * v) ≤ s * (e * e * u + e' * e' * v)
convex s u v e e' p = rw (← p) (omega (arith, mul-le-mul_left (u * v) (twice e e')))

concave : (s u v e e' d : ℕ) → u + v ≡ s → e' ≡ e + d
    → 4 * (s * (e * e * u + e' * e' * v)) ≤ 4 * ((e * u + e' * v) * (e * u + e' * v)) + s * s * (d * d)
concave s u v e e' d p q = rw (← p, q) (omega (arith, mul-le-mul_right (d * d) (four u v)))

-- what a rounding adds to a square, and what it takes
round_up : (x s S : ℕ) → Rounds x s S → 4 * (s * s * (S * S)) ≤ 4 * (x * x) + 4 * (s * x) + s * s
round_up x s S k = omega (arith, mul-le-mul k.0 k.0)

round-down : (x s S : ℕ) → Rounds x s S → 4 * (x * x) ≤ 4 * (s * s * (S * S)) + 4 * (s * s * S) + s * s
round-down x s S k = let h : 2 * x ≤ 2 * s * S + s = omega (arith, k.1) in omega (arith, mul-le-mul h h)

-- each letter is one of the products below
sum-up : (SS CC xx yy sx sy E F ss B : ℕ) → 4 * SS ≤ 4 * xx + 4 * sx + ss → 4 * CC ≤ 4 * yy + 4 * sy + ss → xx ≤ E → yy ≤ F → E + F + sx + sy ≤ B
    → 4 * SS + 4 * CC ≤ 4 * B + 2 * ss
sum-up SS CC xx yy sx sy E F ss B h k p q b = omega arith

sum-down : (SS CC S C xx yy E F D D' ss m : ℕ) → 4 * xx ≤ 4 * SS + 4 * S + ss → 4 * yy ≤ 4 * CC + 4 * C + ss → 4 * E ≤ 4 * xx + D → 4 * F ≤ 4 * yy + D'
    → m ≤ E + F → 4 * m ≤ 4 * SS + 4 * CC + 4 * S + 4 * C + 2 * ss + (D + D')
sum-down SS CC S C xx yy E F D D' ss m h k p q b = omega arith

module _ (s u v e e' f f' S C : ℕ) (some : 0 < s) (parts : u + v ≡ s) (k : Rounds (e * u + e' * v) s S) (l : Rounds (f * v + f' * u) s C) where
  parts' : v + u ≡ s
  parts' = omega arith

  -- what bounds e² + f² + e + f at both ends bounds S² + C²
  pub above : (b : ℕ) → e * e + f' * f' + e + f' ≤ b → e' * e' + f * f + e' + f ≤ b → S * S + C * C ≤ b
  above b h h' =
      let x = e * u + e' * v in
      let y = f * v + f' * u in
      let E = e * e * u + e' * e' * v in
      let F = f * f * v + f' * f' * u in
      last (S * S) (C * C) (mul-pos some some)
      (sum-up (s * s * (S * S)) (s * s * (C * C)) (x * x) (y * y) (s * x) (s * y) (s * E) (s * F) (s * s) (s * (b * s))
      (round_up x s S k) (round_up y s C l) (convex s u v e e' parts) (convex s v u f f' parts') (ends E F x y mean))
    where
      mean : (e * e * u + e' * e' * v) + (f * f * v + f' * f' * u) + (e * u + e' * v) + (f * v + f' * u) ≤ b * s
      mean = omega (arith, mul-le-mul_right u h, mul-le-mul_right v h', ap (λ (n : ℕ). b * n) parts)

      ends : (E F x y : ℕ) → E + F + x + y ≤ b * s → s * E + s * F + s * x + s * y ≤ s * (b * s)
      ends E F x y h = omega (arith, mul-le-mul_left s h)

      last : (x y : ℕ) → 0 < s * s → 4 * (s * s * x) + 4 * (s * s * y) ≤ 4 * (s * (b * s)) + 2 * (s * s) → x + y ≤ b
      last x y p h = le_of_suc-le-suc (lt_of_mul-lt-mul_left (4 * (s * s)) (omega arith))

  -- what is at most e² + f² at both ends is at most S² + C², but for the roundings and a quarter of the squared differences
  pub below : (m d d' : ℕ) → e' ≡ e + d → f' ≡ f + d' → m ≤ e * e + f' * f' → m ≤ e' * e' + f * f
      → 4 * m ≤ 4 * (S * S + C * C) + 4 * (S + C) + 2 + (d * d + d' * d')
  below m d d' p q h h' =
      let x = e * u + e' * v in
      let y = f * v + f' * u in
      let E = e * e * u + e' * e' * v in
      let F = f * f * v + f' * f' * u in
      last (S * S) (C * C) (d * d) (d' * d') (mul-pos some some)
      (sum-down (s * s * (S * S)) (s * s * (C * C)) (s * s * S) (s * s * C) (x * x) (y * y) (s * E) (s * F) (s * s * (d * d)) (s * s * (d' * d')) (s * s) (s * (m * s))
      (round-down x s S k) (round-down y s C l) (concave s u v e e' d parts p) (concave s v u f f' d' parts' q) (ends E F mean))
    where
      mean : m * s ≤ (e * e * u + e' * e' * v) + (f * f * v + f' * f' * u)
      mean = omega (arith, mul-le-mul_right u h, mul-le-mul_right v h', ap (λ (n : ℕ). m * n) parts)

      ends : (E F : ℕ) → m * s ≤ E + F → s * (m * s) ≤ s * E + s * F
      ends E F h = omega (arith, mul-le-mul_left s h)

      last : (x y z w : ℕ) → 0 < s * s → 4 * (s * (m * s)) ≤ 4 * (s * s * x) + 4 * (s * s * y) + 4 * (s * s * S) + 4 * (s * s * C) + 2 * (s * s) + (s * s * z + s * s * w)
          → 4 * m ≤ 4 * (x + y) + 4 * (S + C) + 2 + (z + w)
      last x y z w p h = le_of_mul-le-mul_left {k = s * s} (omega arith) p
