-- The laws of `largest`, and of the square root by it: a number that passes, where no larger one does, is the largest, so no proof counts up to it;
-- how a search narrows to it; and that it can be found in two stages, by steps and within one. The laws of `greatest`: every value of the run is at most
-- it, and it is at most whatever they all are at most.
use mathlib.Core.Path.{◌≡◌, refl, sym, ap, subst, ◌∙◌}
use mathlib.Core.Bool.{Bool, true, false, cond, true≢false}
use mathlib.Core.Logic.{⊎_elim}
use Prim.Native.Nat.{ℕ, zero, suc, ◌+◌, ◌-◌, ◌*◌, ◌≤◌, ◌<◌, max}
use native.Mathlib.Nat.{le_refl, eq-or-lt_of_le, not-suc-le-zero, le_of_suc-le-suc, mul-le-mul, mul-le-mul_left, mul-zero, add-zero, eq-zero-or-pos}
use native.Mathlib.Omega.{arith}
use lib.Dec.{leb}
use borrow.Author.Tests.{le-leb, lt-leb, leb-true, leb-false}
use Rattle.exact.specs.Largest.{largest, Among, root, greatest}

pub largest-is : (p : ℕ → Bool) (n a : ℕ) → a < n → p a ≡ true → ((b : ℕ) → a < b → b < n → p b ≡ false) → largest p n ≡ a
unfolding largest
largest-is p zero a h t f = absurd (not-suc-le-zero h)
largest-is p (suc n) a h t f =
    ⊎_elim here (λ l. later l (largest-is p n a l t (λ b u v. f b u (omega arith)))) (eq-or-lt_of_le (le_of_suc-le-suc h))
  where
    here : a ≡ n → cond (p n) n (largest p n) ≡ a
    here e = ap (λ (b : Bool). cond b n (largest p n)) (ap p (sym e) ∙ t) ∙ sym e

    later : a < n → largest p n ≡ a → cond (p n) n (largest p n) ≡ a
    later l r = ap (λ (b : Bool). cond b n (largest p n)) (f n l (le_refl (suc n))) ∙ r

-- the largest is below n; where 0 passes, it passes; and nothing between it and n does
largest-below : (p : ℕ → Bool) (n : ℕ) → 0 < n → largest p n < n
unfolding largest
largest-below p zero h = h
largest-below p (suc zero) h = by (p 0)
  where
    by : (b : Bool) → cond b 0 0 < 1
    by true = h
    by false = h
largest-below p (suc (suc n)) h = by (p (suc n)) (largest-below p (suc n) (omega arith))
  where
    by : (b : Bool) → largest p (suc n) < suc n → cond b (suc n) (largest p (suc n)) < suc (suc n)
    by true r = le_refl (suc (suc n))
    by false r = omega arith

largest-passes : (p : ℕ → Bool) (n : ℕ) → p 0 ≡ true → p (largest p n) ≡ true
unfolding largest
largest-passes p zero t = t
largest-passes p (suc n) t = by (p n) refl (largest-passes p n t)
  where
    by : (b : Bool) → p n ≡ b → p (largest p n) ≡ true → p (cond b n (largest p n)) ≡ true
    by true e r = e
    by false e r = r

largest-last : (p : ℕ → Bool) (n b : ℕ) → largest p n < b → b < n → p b ≡ false
unfolding largest
largest-last p zero b u v = absurd (not-suc-le-zero v)
largest-last p (suc n) b u v = by (p n) refl u (largest-last p n b)
  where
    by : (t : Bool) → p n ≡ t → cond t n (largest p n) < b → (largest p n < b → b < n → p b ≡ false) → p b ≡ false
    by true e u r = absurd (omega arith)
    by false e u r = ⊎_elim (λ k. ap p k ∙ e) (λ l. r u l) (eq-or-lt_of_le (le_of_suc-le-suc v))

-- ---- a test that fails above every number where it fails

abbrev pub FailsOn : (ℕ → Bool) → ℕ → Type 0
FailsOn p end = (a b : ℕ) → a ≤ b → b ≤ end → p a ≡ false → p b ≡ false

-- a search goes on above the number it tried, or below it; it ends where one number is left
pub among-above : (p : ℕ → Bool) (low width end half : ℕ) → Among p low width end → half ≤ width → p (low + half) ≡ true → Among p (low + half) (width - half) end
among-above p low width end half a h t =
    let e : low + width ≡ low + half + (width - half) = omega arith in
    record { within = omega (arith, a.within); yes = t; no = subst (λ (k : ℕ). p k ≡ false) e a.no }

pub among_below : (p : ℕ → Bool) (low width end half left : ℕ) → FailsOn p end → Among p low width end → half ≤ left → left ≤ width → p (low + half) ≡ false → Among p low left end
among_below p low width end half left fails a h k f =
    let within : low + left ≤ end = omega (arith, a.within) in
    record { within = within; yes = a.yes; no = fails (low + half) (low + left) (omega arith) within f }

pub among-some : (p : ℕ → Bool) (low width end : ℕ) → Among p low width end → 0 < width
among-some p low width end a = ⊎_elim none (λ h. h) (eq-zero-or-pos width)
  where
    none : width ≡ 0 → 0 < width
    none z = let e : low ≡ low + width = omega arith in absurd (true≢false (sym a.yes ∙ ap p e ∙ a.no))

pub among_one : (p : ℕ → Bool) (low end : ℕ) → FailsOn p end → Among p low 1 end → largest p end ≡ low
among_one p low end fails a =
    largest-is p end low (omega (arith, a.within)) a.yes (λ b u v. fails (low + 1) b (omega arith) (omega arith) a.no)

-- the largest of all, by the last of m steps of s numbers whose start passes, and the last number in that step
module _ (p : ℕ → Bool) (s m : ℕ) (long : 0 < s) (some : 0 < m) (fails : FailsOn p (s * m)) (yes : p 0 ≡ true) where
  abbrev starts : ℕ → Bool
  starts k = p (s * k)

  abbrev n : ℕ
  n = largest starts m

  abbrev inside : ℕ → Bool
  inside r = p (s * n + r)

  abbrev r : ℕ
  r = largest inside s

  start : p (s * n) ≡ true
  start = largest-passes starts m (ap p (mul-zero s) ∙ yes)

  n-below : n < m
  n-below = largest-below starts m some

  r-below : r < s
  r-below = largest-below inside s long

  above : (b : ℕ) → s * n + r < b → b < s * m → p b ≡ false
  above b u v = by (leb (s * n + s) b) refl
    where
      within : b < s * n + s → p b ≡ false
      within l =
          let e : s * n + (b - s * n) ≡ b = omega arith in
          subst (λ (k : ℕ). p k ≡ false) e (largest-last inside s (b - s * n) (omega arith) (omega arith))

      beyond : s * n + s ≤ b → p b ≡ false
      beyond l = fails (s * (n + 1)) b (omega arith) (omega arith) (largest-last starts m (n + 1) (omega arith) next)
        where
          next : n + 1 < m
          next = ⊎_elim (λ k. absurd (omega (arith, ap (λ (i : ℕ). s * i) k))) (λ k. omega arith) (eq-or-lt_of_le n-below)

      by : (t : Bool) → leb (s * n + s) b ≡ t → p b ≡ false
      by true e = beyond (leb-true _ _ e)
      by false e = within (leb-false _ _ e)

  pub by-steps : largest p (s * m) ≡ s * n + r
  by-steps =
      largest-is p (s * m) (s * n + r) (omega (arith, r-below, mul-le-mul_left s n-below))
      (largest-passes inside s (ap p (add-zero (s * n)) ∙ start)) above

-- ---- the square root

-- a number is at most its square
square-ge : (r : ℕ) → r ≤ r * r
square-ge zero = le_refl zero
square-ge (suc r) = omega arith

pub root_is : (x r : ℕ) → r * r ≤ x → x < (r + 1) * (r + 1) → root x ≡ r
unfolding root
root_is x r h k =
    largest-is (λ s. leb (s * s) x) (suc x) r (omega (arith, square-ge r)) (le-leb (r * r) x h)
    (λ b u v. lt-leb (b * b) x (omega (arith, above b u)))
  where
    above : (b : ℕ) → r < b → (r + 1) * (r + 1) ≤ b * b
    above b u = let l : r + 1 ≤ b = omega arith in mul-le-mul l l

-- ---- the greatest value over a run
pub greatest-ge : (f : ℕ → ℕ) (low k n : ℕ) → low ≤ n → n ≤ low + k → f n ≤ greatest f low k
unfolding greatest
greatest-ge f low zero n l h = let e : n ≡ low = omega arith in rw e (le_refl (f low))
greatest-ge f low (suc k) n l h = ⊎_elim here (λ u. over (greatest-ge f low k n l (omega arith))) (eq-or-lt_of_le h)
  where
    over : f n ≤ greatest f low k → f n ≤ max (f (low + suc k)) (greatest f low k)
    over b = omega arith

    here : n ≡ low + suc k → f n ≤ max (f (low + suc k)) (greatest f low k)
    here e = rw e (omega arith)

pub greatest-le : (f : ℕ → ℕ) (low k m : ℕ) → ((n : ℕ) → low ≤ n → n ≤ low + k → f n ≤ m) → greatest f low k ≤ m
unfolding greatest
greatest-le f low zero m all = all low (le_refl low) (omega arith)
greatest-le f low (suc k) m all =
    let a = all (low + suc k) (omega arith) (le_refl (low + suc k)) in
    let b = greatest-le f low k m (λ n l h. all n l (omega arith)) in
    omega arith
