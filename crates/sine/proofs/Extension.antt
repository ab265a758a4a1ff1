-- The turn by its quadrants: what Sin and Cos are in each, what holds of functions on 0..Q carried over the turn, and the mirror laws.
use mathlib.Core.Path.{◌≡◌, refl, sym, ap, ◌∙◌}
use mathlib.Core.Bool.{Bool, true, false, cond}
use mathlib.Core.Logic.{⊎_elim}
use Prim.Native.Nat.{ℕ, zero, suc, ◌+◌, ◌-◌, ◌*◌, ◌/◌, ◌%◌, ◌≤◌, ◌<◌}
use native.Mathlib.Nat.{add_comm, eq-or-lt_of_le}
use native.Mathlib.Omega.{arith}
use lib.Dec.{leb}
use lib.IntN.{ℤ, pos, negsuc, neg_ℤ, nat_abs, ◌+ℤ◌, ◌*ℤ◌, neg_ℤ-neg_ℤ}
use borrow.Author.Tests.{le-leb, lt-leb, leb-true, leb-false}
use Rattle.exact.specs.Reduction.{Q, turn, reduced}
use Rattle.exact.proofs.Differences.{split, zs}
use Rattle.exact.proofs.Integers.{abs_neg}
use Rattle.exact.proofs.Reduction.{reduced-same, reduced-unique}
use Rattle.sine_table.specs.Table.{R}
use Rattle.sine.specs.Sine.{half, extended, sin_quadrant, Sin, Cos}
use Rattle.sine.proofs.Quadrant.{sin-zero, sin-top}

-- ---- what holds of two functions on 0..Q holds of them over the turn, of integers where it holds of both signs
module _ (f g : ℕ → ℕ) (P : ℕ → ℕ → Type 0) (on : (a : ℕ) → a ≤ Q → P (f a) (g a)) where
  on-half : (a : ℕ) → a ≤ 2 * Q → P (half f a) (half g a)
  on-half a h = by (leb a Q) refl
    where
      by : (t : Bool) → leb a Q ≡ t → P (cond t (f a) (f (2 * Q - a))) (cond t (g a) (g (2 * Q - a)))
      by true e = on a (leb-true a Q e)
      by false e = on (2 * Q - a) (omega (arith, leb-false a Q e))

  pub on-turn : (Z : ℤ → ℤ → Type 0) → ((x y : ℕ) → P x y → Z (pos x) (pos y)) → ((x y : ℕ) → P x y → Z (neg_ℤ (pos x)) (neg_ℤ (pos y)))
      → (a : ℕ) → a ≤ turn → Z (extended f a) (extended g a)
  on-turn Z up down a h = by (leb a (2 * Q)) refl
    where
      by : (t : Bool) → leb a (2 * Q) ≡ t → Z (cond t (pos (half f a)) (neg_ℤ (pos (half f (a - 2 * Q))))) (cond t (pos (half g a)) (neg_ℤ (pos (half g (a - 2 * Q)))))
      by true e = up (half f a) (half g a) (on-half a (leb-true a (2 * Q) e))
      by false e = down (half f (a - 2 * Q)) (half g (a - 2 * Q)) (on-half (a - 2 * Q) (omega arith))

-- ---- Sin and Cos at b past each quarter of the turn
pub sin-1 : (b : ℕ) → b ≤ Q → Sin b ≡ pos (sin_quadrant b)
unfolding Sin
sin-1 b h = simp (le-leb b Q h, le-leb b (2 * Q) (omega arith))

pub sin-2 : (b : ℕ) → b ≤ Q → Sin (Q + b) ≡ pos (sin_quadrant (Q - b))
unfolding Sin
sin-2 zero h = refl
sin-2 (suc b) h =
    let m : 2 * Q - (Q + suc b) ≡ Q - suc b = omega arith in
    simp (lt-leb (Q + suc b) Q (omega arith), le-leb (Q + suc b) (2 * Q) (omega arith), m)

pub sin-3 : (b : ℕ) → b ≤ Q → Sin (2 * Q + b) ≡ neg_ℤ (pos (sin_quadrant b))
unfolding Sin
sin-3 zero h = ap pos sin-zero ∙ ap (λ (n : ℕ). neg_ℤ (pos n)) (sym sin-zero)
sin-3 (suc b) h =
    let m : 2 * Q + suc b - 2 * Q ≡ suc b = omega arith in
    simp (lt-leb (2 * Q + suc b) (2 * Q) (omega arith), m, le-leb (suc b) Q h)

pub sin-4 : (b : ℕ) → b ≤ Q → Sin (3 * Q + b) ≡ neg_ℤ (pos (sin_quadrant (Q - b)))
unfolding Sin
sin-4 zero h = refl
sin-4 (suc b) h =
    let m : 3 * Q + suc b - 2 * Q ≡ Q + suc b = omega arith in
    let n : 2 * Q - (Q + suc b) ≡ Q - suc b = omega arith in
    simp (lt-leb (3 * Q + suc b) (2 * Q) (omega arith), m, lt-leb (Q + suc b) Q (omega arith), n)

-- Cos by the Sin a quarter on
pub cos-low : (a : ℕ) → a < 3 * Q → Cos a ≡ Sin (a + Q)
unfolding Cos
cos-low a h = ap Sin (reduced-same (a + Q) (omega arith))

pub cos-high : (a : ℕ) → 3 * Q ≤ a → a < turn → Cos a ≡ Sin (a - 3 * Q)
unfolding Cos
cos-high a h k = ap Sin (sym (reduced-unique (pos (a + Q)) (pos 1) (a - 3 * Q) (omega arith) (simp zs (omega arith))))

pub cos-1 : (b : ℕ) → b ≤ Q → Cos b ≡ pos (sin_quadrant (Q - b))
cos-1 b h = cos-low b (omega arith) ∙ rw (add_comm b Q) (sin-2 b h)

pub cos-2 : (b : ℕ) → b ≤ Q → Cos (Q + b) ≡ neg_ℤ (pos (sin_quadrant b))
cos-2 b h = let e : Q + b + Q ≡ 2 * Q + b = omega arith in cos-low (Q + b) (omega arith) ∙ rw e (sin-3 b h)

pub cos-3 : (b : ℕ) → b ≤ Q → Cos (2 * Q + b) ≡ neg_ℤ (pos (sin_quadrant (Q - b)))
cos-3 b h = ⊎_elim last below (eq-or-lt_of_le h)
  where
    last : b ≡ Q → Cos (2 * Q + b) ≡ neg_ℤ (pos (sin_quadrant (Q - b)))
    last e = rw e (cos-high (3 * Q) (omega arith) (omega arith) ∙ sin-1 0 (omega arith) ∙ rw sin-zero)

    below : b < Q → Cos (2 * Q + b) ≡ neg_ℤ (pos (sin_quadrant (Q - b)))
    below l = let e : 2 * Q + b + Q ≡ 3 * Q + b = omega arith in cos-low (2 * Q + b) (omega arith) ∙ rw e (sin-4 b h)

pub cos-4 : (b : ℕ) → b < Q → Cos (3 * Q + b) ≡ pos (sin_quadrant b)
cos-4 b h = let e : 3 * Q + b - 3 * Q ≡ b = omega arith in cos-high (3 * Q + b) (omega arith) (omega arith) ∙ rw e (sin-1 b (omega arith))

-- ---- every reduced angle is b past a quarter of the turn
pub data Quarter (a : ℕ) : Type 0 where
  first : (b : ℕ) → b < Q → a ≡ b → Quarter a
  second : (b : ℕ) → b < Q → a ≡ Q + b → Quarter a
  third : (b : ℕ) → b < Q → a ≡ 2 * Q + b → Quarter a
  fourth : (b : ℕ) → b < Q → a ≡ 3 * Q + b → Quarter a

pub quarter : (a : ℕ) → a < turn → Quarter a
quarter a h = by (a / Q) refl
  where
    by : (k : ℕ) → a / Q ≡ k → Quarter a
    by zero e = first (a % Q) (omega arith) (omega arith)
    by (suc zero) e = second (a % Q) (omega arith) (omega arith)
    by (suc (suc zero)) e = third (a % Q) (omega arith) (omega arith)
    by (suc (suc (suc zero))) e = fourth (a % Q) (omega arith) (omega arith)
    by (suc (suc (suc (suc k)))) e = absurd (omega arith)

-- ---- without their signs Sin and Cos are those of an angle of the first quadrant
pub record Folded (a : ℕ) : Type 0 where
  pub b : ℕ
  pub within : b ≤ Q
  pub sin : nat_abs (Sin a) ≡ sin_quadrant b
  pub cos : nat_abs (Cos a) ≡ sin_quadrant (Q - b)

pub folded : (a : ℕ) → a < turn → Folded a
folded a h = by (quarter a h)
  where
    back : (b : ℕ) → b < Q → sin_quadrant b ≡ sin_quadrant (Q - (Q - b))
    back b l = ap sin_quadrant (omega arith)

    by : Quarter a → Folded a
    by (first b l e) = let w : b ≤ Q = omega arith in rw e (record { b = b; within = w; sin = rw (sin-1 b w); cos = rw (cos-1 b w) })
    by (second b l e) =
        let w : b ≤ Q = omega arith in
        rw e (record { b = Q - b; within = omega arith; sin = rw (sin-2 b w); cos = rw (cos-2 b w, abs_neg) (back b l) })
    by (third b l e) =
        let w : b ≤ Q = omega arith in
        rw e (record { b = b; within = w; sin = rw (sin-3 b w, abs_neg); cos = rw (cos-3 b w, abs_neg) })
    by (fourth b l e) =
        let w : b ≤ Q = omega arith in
        rw e (record { b = Q - b; within = omega arith; sin = rw (sin-4 b w, abs_neg); cos = rw (cos-4 b l) (back b l) })

-- ---- the opposite angle: Sin(−a) = −Sin(a) and Cos(−a) = Cos(a)
opposite : (a : ℕ) → 0 < a → a < turn → (Sin (turn - a) ≡ neg_ℤ (Sin a)) × (Cos (turn - a) ≡ Cos a)
opposite a p h = by (quarter a h)
  where
    back : (b : ℕ) → b < Q → Q - (Q - b) ≡ b
    back b l = omega arith

    by : Quarter a → (Sin (turn - a) ≡ neg_ℤ (Sin a)) × (Cos (turn - a) ≡ Cos a)
    by (first b l e) =
        let w : b ≤ Q = omega arith in
        let v : Q - b < Q = omega arith in
        let m : turn - b ≡ 3 * Q + (Q - b) = omega arith in
        rw (e, m) (rw (sin-4 (Q - b) (omega arith), sin-1 b w, back b l), rw (cos-4 (Q - b) v, cos-1 b w))
    by (second b l e) =
        let w : b ≤ Q = omega arith in
        let m : turn - (Q + b) ≡ 2 * Q + (Q - b) = omega arith in
        rw (e, m) (rw (sin-3 (Q - b) (omega arith), sin-2 b w), rw (cos-3 (Q - b) (omega arith), cos-2 b w, back b l))
    by (third b l e) =
        let w : b ≤ Q = omega arith in
        let m : turn - (2 * Q + b) ≡ Q + (Q - b) = omega arith in
        rw (e, m) (rw (sin-2 (Q - b) (omega arith), sin-3 b w, back b l, neg_ℤ-neg_ℤ), rw (cos-2 (Q - b) (omega arith), cos-3 b w))
    by (fourth b l e) =
        let w : b ≤ Q = omega arith in
        let m : turn - (3 * Q + b) ≡ Q - b = omega arith in
        rw (e, m) (rw (sin-1 (Q - b) (omega arith), sin-4 b w, neg_ℤ-neg_ℤ), rw (cos-1 (Q - b) (omega arith), cos-4 b l, back b l))

minus_is : (n : ℕ) → suc n < turn → reduced (negsuc n) ≡ turn - suc n
minus_is n h = sym (reduced-unique (negsuc n) (negsuc 0) (turn - suc n) (omega arith) (go (negsuc n) (negsuc 0) n (turn - suc n) refl refl (omega arith)))
  where
    go : (z k : ℤ) (n r : ℕ) → z ≡ negsuc n → k ≡ negsuc 0 → r + suc n ≡ turn → z ≡ pos turn *ℤ k +ℤ pos r
    go z k n r = rw (split z, split k) (simp zs (omega arith))

pub sin-minus : (a : ℕ) → a < turn → Sin (reduced (neg_ℤ (pos a))) ≡ neg_ℤ (Sin a)
sin-minus zero h = rw (reduced-same 0 h, sin-1 0 (omega arith), sin-zero)
sin-minus (suc n) h = rw (minus_is n h) (opposite (suc n) (omega arith) h).0

pub cos-minus : (a : ℕ) → a < turn → Cos (reduced (neg_ℤ (pos a))) ≡ Cos a
cos-minus zero h = rw (reduced-same 0 h)
cos-minus (suc n) h = rw (minus_is n h) (opposite (suc n) (omega arith) h).1

-- ---- a quarter more or less
pub cos-mirror : (a : ℕ) → a ≤ Q → Cos a ≡ Sin (Q - a)
cos-mirror a h = cos-1 a h ∙ sym (sin-1 (Q - a) (omega arith))

pub record AtQuarters : Type 0 where
  pub sin-0 : Sin 0 ≡ pos 0
  pub sin-Q : Sin Q ≡ pos R
  pub sin-2Q : Sin (2 * Q) ≡ pos 0
  pub sin-3Q : Sin (3 * Q) ≡ neg_ℤ (pos R)
  pub cos-0 : Cos 0 ≡ pos R
  pub cos-Q : Cos Q ≡ pos 0
  pub cos-2Q : Cos (2 * Q) ≡ neg_ℤ (pos R)
  pub cos-3Q : Cos (3 * Q) ≡ pos 0

pub at-quarters : AtQuarters
at-quarters =
    record {
      sin-0 = sin-1 0 (omega arith) ∙ ap pos sin-zero;
      sin-Q = sin-1 Q (omega arith) ∙ ap pos sin-top;
      sin-2Q = sin-2 Q (omega arith) ∙ ap pos sin-zero;
      sin-3Q = sin-3 Q (omega arith) ∙ ap (λ (n : ℕ). neg_ℤ (pos n)) sin-top;
      cos-0 = cos-1 0 (omega arith) ∙ ap pos sin-top;
      cos-Q = cos-1 Q (omega arith) ∙ ap pos sin-zero;
      cos-2Q = cos-2 Q (omega arith) ∙ ap (λ (n : ℕ). neg_ℤ (pos n)) sin-top;
      cos-3Q = cos-4 0 (omega arith) ∙ ap pos sin-zero;
    }
