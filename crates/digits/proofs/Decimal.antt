-- The laws of the digits, which together determine them for every n: a number below ten is one digit; any other is its quotient's digits, a space and
-- the last digit.
use mathlib.Core.Path.{◌≡◌, refl, ap, ◌∙◌}
use mathlib.Core.Bool.{Bool, true, false, cond}
use mathlib.Core.List.{List, [], ◌∷◌, ◌++◌}
use Prim.Native.Nat.{ℕ, zero, suc, ◌+◌, ◌*◌, ◌/◌, ◌%◌, ◌^◌, ◌<◌, ◌≤◌}
use native.Mathlib.Omega.{arith}
use native.Mathlib.Nat.{pow-suc}
use lib.Dec.{ltb}
use lib.ListN.{length, drop, set, length-append, length-set}
use borrow.Author.Tests.{lt-ltb, le-ltb, ltb-true, ltb-false}
use Rattle.digits.specs.Text.{decimal_in, decimal, spaced, digits}
use Rattle.digits.proofs.Lists.{put_two}

by-test : (b : Bool) (x y z : List ℕ) → (b ≡ false → y ≡ z) → cond b x y ≡ cond b x z
by-test true x y z e = refl
by-test false x y z e = e refl

-- the places are never used up: any two counts above n give the same digits
places : (j k n : ℕ) → n < j → n < k → decimal_in j n ≡ decimal_in k n
unfolding decimal_in
places zero k n h g = absurd (omega arith)
places (suc j) zero n h g = absurd (omega arith)
places (suc j) (suc k) n h g = by-test (ltb n 10) _ _ _ λ t.
    let le = ltb-false n 10 t in
    ap (λ (l : List ℕ). l ++ (n % 10 ∷ [])) (places j k (n / 10) (omega arith) (omega arith))

pub decimal-one : (n : ℕ) → n < 10 → decimal n ≡ n ∷ []
unfolding decimal decimal_in
decimal-one n h = rw (lt-ltb n 10 h)

pub decimal-more : (n : ℕ) → 10 ≤ n → decimal n ≡ decimal (n / 10) ++ (n % 10 ∷ [])
unfolding decimal decimal_in
decimal-more n h =
    rw (le-ltb n 10 h) (ap (λ (l : List ℕ). l ++ (n % 10 ∷ [])) (places n (suc (n / 10)) (n / 10) (omega arith) (omega arith)))

-- by whether n is below ten
by_answer {ℓ} : {P : Type ℓ} (b : Bool) → (b ≡ true → P) → (b ≡ false → P) → P
by_answer true p q = p refl
by_answer false p q = q refl

pub by_size {ℓ} : {P : Type ℓ} (n : ℕ) → (n < 10 → P) → (10 ≤ n → P) → P
by_size n small large = by_answer (ltb n 10) (λ t. small (ltb-true n 10 t)) (λ t. large (ltb-false n 10 t))

-- what holds below ten, and of n where it holds of n / 10, holds of every number
module _ {P : ℕ → Type 0} (one : (n : ℕ) → n < 10 → P n) (more : (n : ℕ) → 10 ≤ n → P (n / 10) → P n) where
  below : (k n : ℕ) → n < k → P n
  below zero n h = absurd (omega arith)
  below (suc k) n h = by_size n (one n) (λ s. more n s (below k (n / 10) (omega arith)))

  pub by-tens : (n : ℕ) → P n
  by-tens n = below (suc n) n (omega arith)

pub decimal-some : (n : ℕ) → 0 < length (decimal n)
decimal-some n =
    by_size n (λ h. rw (decimal-one n h) (omega arith)) λ h. rw (decimal-more n h) (simp length-append (omega arith))

spaced-last : (l : List ℕ) (d : ℕ) → 0 < length l → spaced (l ++ (d ∷ [])) ≡ spaced l ++ (32 ∷ (48 + d) ∷ [])
unfolding spaced
spaced-last [] d h = absurd (omega arith)
spaced-last (c ∷ []) d h = refl
spaced-last (c ∷ e ∷ l) d h = ap (λ (t : List ℕ). (48 + c) ∷ 32 ∷ t) (spaced-last (e ∷ l) d (omega arith))

pub digits-one : (n : ℕ) → n < 10 → digits n ≡ (48 + n) ∷ []
unfolding digits spaced
digits-one n h = ap spaced (decimal-one n h)

pub digits_more : (n : ℕ) → 10 ≤ n → digits n ≡ digits (n / 10) ++ (32 ∷ (48 + n % 10) ∷ [])
unfolding digits
digits_more n h = ap spaced (decimal-more n h) ∙ spaced-last (decimal (n / 10)) (n % 10) (decimal-some (n / 10))

pub length-one : (n : ℕ) → n < 10 → length (digits n) ≡ 1
length-one n h = ap length (digits-one n h)

pub length_more : (n : ℕ) → 10 ≤ n → length (digits n) ≡ length (digits (n / 10)) + 2
length_more n h = ap length (digits_more n h) ∙ length-append (digits (n / 10)) (32 ∷ (48 + n % 10) ∷ [])

-- l with the quotient's digits at its front becomes l with n's, by a space and the last digit
pub put_last : (n k : ℕ) (l x : List ℕ) → 10 ≤ n → length (digits n) ≤ length l → k ≡ length (digits (n / 10))
    → x ≡ digits (n / 10) ++ drop (length (digits (n / 10))) l
    → set (set x k 32) (k + 1) (48 + n % 10) ≡ digits n ++ drop (length (digits n)) l
put_last n k l x h r e f =
    let m = length_more n h in
    rw (f, e, m, digits_more n h) (put_two (digits (n / 10)) l 32 (48 + n % 10) (omega arith))

-- a number below 10^(k + 1) has at most k + 1 digits
pub length-decimal : (k n : ℕ) → n < 10 ^ suc k → length (decimal n) ≤ suc k
length-decimal zero n h = rw (decimal-one n h) (omega arith)
length-decimal (suc k) n h = by_size n (λ s. rw (decimal-one n s) (omega arith)) λ s.
    let p = pow-suc 10 (suc k) in
    let i = length-decimal k (n / 10) (omega arith) in
    rw (decimal-more n s) (simp length-append (omega arith))

-- which take at most 2k + 1 bytes
length-spaced : (l : List ℕ) → 0 < length l → length (spaced l) + 1 ≡ 2 * length l
unfolding spaced
length-spaced [] h = absurd (omega arith)
length-spaced (d ∷ []) h = refl
length-spaced (d ∷ e ∷ l) h = let i = length-spaced (e ∷ l) (omega arith) in omega arith

pub length_digits : (k n : ℕ) → n < 10 ^ suc k → length (digits n) ≤ 2 * k + 1
unfolding digits
length_digits k n h = let i = length-decimal k n h in let e = length-spaced (decimal n) (decimal-some n) in omega arith

-- so the digits of a number of 64 bits take at most 39
pub length-digits-64 : (n : ℕ) → n < 2 ^ 64 → length (digits n) ≤ 39
length-digits-64 n h = length_digits 19 n (omega arith)

-- how long digits are
pub ruleset lengths = (length-one, length_more, length-digits-64, length-set)
