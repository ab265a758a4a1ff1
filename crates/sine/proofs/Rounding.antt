-- The arithmetic of an interpolated table, in plain numbers, for any step s = u + v, radius r, denominator den and tolerance b. T and T' are two entries, nearest
-- to r·p / den and r·p' / den; S is nearest to their mean; q is what lies between p and p', and four times it is at most h / s from four times their mean.
use mathlib.Core.Path.{◌≡◌, ap}
use Prim.Native.Nat.{ℕ, ◌+◌, ◌*◌, ◌≤◌, ◌<◌}
use native.Mathlib.Nat.{mul-le-mul_left, le_of_mul-le-mul_left}
use native.Mathlib.Omega.{arith}
use Rattle.exact.proofs.Division.{Rounds}

-- x and y are at most k apart
abbrev pub Apart : ℕ → ℕ → ℕ → Type 0
Apart x y k = (x ≤ y + k) × (y ≤ x + k)

times : (c x y k : ℕ) → Apart x y k → Apart (c * x) (c * y) (c * k)
times c x y k h = (omega (arith, mul-le-mul_left c h.0), omega (arith, mul-le-mul_left c h.1))

cancel : (s x y b den : ℕ) → 0 < s → Apart (s * x) (s * y) (b * (s * den)) → Apart x y (b * den)
cancel s x y b den some h = (le_of_mul-le-mul_left {k = s} (omega (arith, h.0)) some, le_of_mul-le-mul_left {k = s} (omega (arith, h.1)) some)

-- a rounding, times a factor
weighed : (c x d k : ℕ) → Rounds x d k → Apart (c * (2 * d * k)) (c * (2 * x)) (c * d)
weighed c x d k h = times c (2 * d * k) (2 * x) d (omega arith)

-- the mean of p and p', each a difference t − c, where the chord of the t lies e above and that of the c lies f above
pub mean-apart : (s u v p c t p' c' t' q c'' t'' e f h : ℕ) → u + v ≡ s → p + c ≡ t → p' + c' ≡ t' → q + c'' ≡ t''
    → u * t + v * t' ≡ (u + v) * t'' + e → u * c + v * c' ≡ (u + v) * c'' + f → 4 * e ≤ h → 4 * f ≤ h → Apart (4 * (u * p + v * p')) (4 * (s * q)) h
mean-apart s u v p c t p' c' t' q c'' t'' e f h parts d d' d'' up down k l =
    omega (arith, ap (λ (x : ℕ). u * x) d, ap (λ (x : ℕ). v * x) d', ap (λ (x : ℕ). (u + v) * x) d'', ap (λ (x : ℕ). x * q) parts)

-- from S to the mean of the entries, to the mean of p and p', to q: each letter is a product of `enclosed`
chain : (SS X Y P P' QQ A B D H M : ℕ) → Apart (2 * SS) (2 * (X + Y)) D → Apart (2 * X) (2 * P) A → Apart (2 * Y) (2 * P') B → Apart (4 * (P + P')) (4 * QQ) H
    → A + B ≡ D → H + 4 * D ≤ 4 * M → Apart SS QQ M
chain SS X Y P P' QQ A B D H M h hx hy hp e m = omega arith

module _ (r s u v den b : ℕ) (some : 0 < s) (parts : u + v ≡ s) (p p' q h T T' S : ℕ) (mean : Apart (4 * (u * p + v * p')) (4 * (s * q)) h)
    (k : Rounds (r * p) den T) (k' : Rounds (r * p') den T') (l : Rounds (T * u + T' * v) s S) where
  pub enclosed : r * h + 4 * (s * den) ≤ 4 * (b * (s * den)) → Apart (den * S) (r * q) (b * den)
  enclosed m =
      cancel s (den * S) (r * q) b den some
      (chain (s * (den * S)) (den * (T * u)) (den * (T' * v)) (r * (u * p)) (r * (v * p')) (s * (r * q)) (den * u) (den * v) (s * den) (r * h) (b * (s * den))
      (omega (arith, weighed den (T * u + T' * v) s S l)) (omega (arith, weighed u (r * p) den T k)) (omega (arith, weighed v (r * p') den T' k'))
      (omega (arith, times r (4 * (u * p + v * p')) (4 * (s * q)) h mean)) (omega (arith, ap (λ (x : ℕ). den * x) parts)) m)
