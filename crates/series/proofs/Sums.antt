-- The laws of a sum of terms, for any list: two lists one after the other, an amplitude in two parts, and how large a sum and its amplitudes are.
use mathlib.Core.Path.{◌≡◌, sym, ap, ◌∙◌}
use mathlib.Core.List.{List, [], ◌∷◌, ◌++◌}
use Prim.Native.Nat.{ℕ, ◌+◌, ◌*◌, ◌^◌, ◌≤◌, ◌<◌}
use native.Mathlib.Nat.{le_refl, le_trans, le_of_lt, mul-le-mul_left, zero-div}
use native.Mathlib.Omega.{arith}
use lib.IntN.{ℤ, pos, nat_abs, ◌+ℤ◌, ◌*ℤ◌}
use lib.Signed.{le_z_yes}
use Rattle.exact.specs.Division.{floor_div}
use Rattle.exact.specs.Reduction.{turn}
use Rattle.exact.proofs.Differences.{split, zs}
use Rattle.exact.proofs.Integers.{abs-*-le}
use Rattle.exact.proofs.Reduction.{reduced-lt}
use Rattle.secular.specs.FlooredPolynomial as secular
use Rattle.secular.specs.Sizes.{most_millionths}
use Rattle.secular.proofs.Bound.{value-le}
use Rattle.sine_table.specs.Table.{R}
use Rattle.sine.specs.Sine.{Sin}
use Rattle.sine.proofs.Monotonicity.{sin-range}
use Rattle.series.specs.Term.{Part, Term, value, amplitude, amplitude_of, angle_of, weight}
use Rattle.series.specs.Notation.{term}
use Rattle.series.specs.Sum.{total, amplitudes, weights}

-- ---- two lists one after the other
pub shift : (a b c : ℤ) → a +ℤ (b +ℤ c) ≡ a +ℤ b +ℤ c
shift a b c = rw (split a, split b, split c) (simp zs (omega arith))

pub zero_left : (z : ℤ) → pos 0 +ℤ z ≡ z
zero_left z = rw (split z) (simp zs (omega arith))

pub zero_right : (z : ℤ) → z ≡ z +ℤ pos 0
zero_right z = rw (split z) (simp zs (omega arith))

pub total-append : (f : ℕ → ℤ) (arguments : List ℤ) (q : ℤ) (xs ys : List Term) → total f arguments q xs +ℤ total f arguments q ys ≡ total f arguments q (xs ++ ys)
unfolding total
total-append f arguments q [] ys = zero_left (total f arguments q ys)
total-append f arguments q (x ∷ xs) ys =
    sym (shift (value f arguments q x) (total f arguments q xs) (total f arguments q ys))
    ∙ ap (λ (z : ℤ). value f arguments q x +ℤ z) (total-append f arguments q xs ys)

pub weights-append : (xs ys : List Term) → weights (xs ++ ys) ≡ weights xs + weights ys
unfolding weights
weights-append [] ys = omega arith
weights-append (x ∷ xs) ys = let e = weights-append xs ys in omega arith

pub amplitudes-append : (xs ys : List Term) (q : ℤ) → amplitudes (xs ++ ys) q ≡ amplitudes xs q + amplitudes ys q
unfolding amplitudes
amplitudes-append [] ys q = omega arith
amplitudes-append (x ∷ xs) ys q = let e = amplitudes-append xs ys q in omega arith

-- ---- an amplitude in two parts
pub nothing : (x : ℤ) (d : ℕ) → floor_div (pos 0 *ℤ x) d ≡ pos 0
unfolding floor_div
nothing x d = simp (none x) (ap pos (zero-div d))
  where
    none : (x : ℤ) → pos 0 *ℤ x ≡ pos 0
    none x = rw (split x) (simp zs (omega arith))

-- one that does not vary is its c0
pub steady : (c q : ℤ) → c ≡ secular.value (secular.polynomial c (pos 0) (pos 0) (10 ^ 12)) q
unfolding secular.value
steady c q = simp (nothing q (10 ^ 6), nothing (q *ℤ q) (10 ^ 12)) (added c)
  where
    added : (x : ℤ) → x ≡ x +ℤ pos 0 +ℤ pos 0
    added x = rw (split x) (simp zs (omega arith))

-- a term whose amplitude varies is the steady term of its c0 and the term of what varies
pub value-apart : (f : ℕ → ℤ) (arguments : List ℤ) (q c0 c1 c2 phase : ℤ) (first second third : Part)
    → value f arguments q (term c0 c1 c2 phase first second third)
    ≡ value f arguments q (term c0 (pos 0) (pos 0) phase first second third) +ℤ value f arguments q (term (pos 0) c1 c2 phase first second third)
unfolding value secular.value angle_of
value-apart f arguments q c0 c1 c2 phase first second third =
    simp (nothing q (10 ^ 6), nothing (q *ℤ q) (10 ^ 12)) (go c0 (floor_div (c1 *ℤ q) (10 ^ 6)) (floor_div (c2 *ℤ (q *ℤ q)) (10 ^ 12)) (f (angle_of arguments (term c0 c1 c2 phase first second third))))
  where
    go : (c a b s : ℤ) → (c +ℤ a +ℤ b) *ℤ s ≡ (c +ℤ pos 0 +ℤ pos 0) *ℤ s +ℤ (pos 0 +ℤ a +ℤ b) *ℤ s
    go c a b s = rw (split c, split a, split b, split s) (simp zs (omega arith))

-- ---- how large a sum is
pub amplitude-weight : (t : Term) (q : ℤ) → nat_abs q ≤ most_millionths → nat_abs (amplitude_of t q) ≤ weight t
amplitude-weight t q h = value-le (amplitude t) q h (le_z_yes tt)

pub amplitudes-weights : (ts : List Term) (q : ℤ) → nat_abs q ≤ most_millionths → amplitudes ts q ≤ weights ts
unfolding amplitudes weights
amplitudes-weights [] q h = le_refl 0
amplitudes-weights (t ∷ ts) q h = omega (arith, amplitude-weight t q h, amplitudes-weights ts q h)

pub angle-lt : (arguments : List ℤ) (t : Term) → angle_of arguments t < turn
unfolding angle_of
angle-lt arguments t = reduced-lt _

-- with any function that is at most k in magnitude on the turn
pub total-le : (f : ℕ → ℤ) (k : ℕ) → ((a : ℕ) → a < turn → nat_abs (f a) ≤ k) → (arguments : List ℤ) (q : ℤ) (ts : List Term)
    → nat_abs (total f arguments q ts) ≤ k * amplitudes ts q
unfolding total amplitudes value
total-le f k g arguments q [] = omega arith
total-le f k g arguments q (t ∷ ts) =
    let c = amplitude_of t q in
    let a = angle_of arguments t in
    le_trans (grow (c *ℤ f a) (total f arguments q ts) (nat_abs c * k) (k * amplitudes ts q) (abs-*-le c (f a) (nat_abs c) k (le_refl _) (g a (angle-lt arguments t))) (total-le f k g arguments q ts))
    (omega arith)
  where
    grow : (a b : ℤ) (m n : ℕ) → nat_abs a ≤ m → nat_abs b ≤ n → nat_abs (a +ℤ b) ≤ m + n
    grow a b m n = rw (split a, split b) (simp zs (omega arith))

pub sum-le : (arguments : List ℤ) (q : ℤ) → nat_abs q ≤ most_millionths → (ts : List Term) → nat_abs (total Sin arguments q ts) ≤ R * weights ts
sum-le arguments q h ts =
    le_trans (total-le Sin R (λ a l. sin-range a (le_of_lt l)) arguments q ts) (mul-le-mul_left R (amplitudes-weights ts q h))
