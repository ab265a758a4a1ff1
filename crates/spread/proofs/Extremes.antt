-- The largest and the smallest of a list, for any f that takes one of two numbers: it is a number of the list, and what it is held under or over, every
-- number is.
use mathlib.Core.Path.{◌≡◌, refl, ◌∙◌}
use mathlib.Core.Bool.{Bool, true, false, cond}
use mathlib.Core.List.{List, [], ◌∷◌}
use mathlib.Core.Logic.{◌⊎◌, inl, inr}
use Prim.Native.Nat.{ℕ, zero, suc, ◌<◌}
use native.Mathlib.Omega.{arith}
use lib.IntN.{ℤ}
use lib.ListN.{length}
use lib.Signed.{lt_z, ◌≤ℤ◌, ◌<ℤ◌}
use Rattle.exact.specs.Nth.{nth}
use Rattle.exact.proofs.Differences.{split, zs}
use Rattle.exact.proofs.Machine.{is_lt, is_ge}
use Rattle.spread.specs.Spread.{larger, smaller, along, overall, largest, smallest}

-- ---- it is a number of the list
pub record Among (z : ℤ) (l : List ℤ) : Type 0 where
  pub index : ℕ
  pub within : index < length l
  pub is : z ≡ nth l index

module _ (f : ℤ → ℤ → ℤ) (one : (a b : ℤ) → (f a b ≡ a) ⊎ (f a b ≡ b)) where
  along-among : (z : ℤ) (l : List ℤ) → Among (along f z l) (z ∷ l)
  unfolding along
  along-among z [] = record { index = 0; within = omega arith; is = refl }
  along-among z (y ∷ ys) = let a = along-among (f z y) ys in go (along f (f z y) ys) a.index a.within a.is (one z y)
    where
      go : (w : ℤ) (i : ℕ) → i < length (f z y ∷ ys) → w ≡ nth (f z y ∷ ys) i → (f z y ≡ z) ⊎ (f z y ≡ y) → Among w (z ∷ y ∷ ys)
      go w zero h e (inl p) = record { index = 0; within = omega arith; is = e ∙ p }
      go w zero h e (inr p) = record { index = 1; within = omega arith; is = e ∙ p }
      go w (suc i) h e o = record { index = suc (suc i); within = omega arith; is = e }

  overall-among : (l : List ℤ) → 0 < length l → Among (overall f l) l
  unfolding overall
  overall-among [] h = absurd (omega arith)
  overall-among (z ∷ l) h = along-among z l

-- ---- what it is held under or over, every number is
module _ (f : ℤ → ℤ → ℤ) (R : ℤ → ℤ → Type 0) (each : (a b c : ℤ) → R (f a b) c → R a c × R b c) (c : ℤ) where
  along-holds : (z : ℤ) (l : List ℤ) → R (along f z l) c → (i : ℕ) → i < length (z ∷ l) → R (nth (z ∷ l) i) c
  unfolding along
  along-holds z [] h zero p = h
  along-holds z [] h (suc i) p = absurd (omega arith)
  along-holds z (y ∷ ys) h zero p = (each z y c (along-holds (f z y) ys h zero (omega arith))).0
  along-holds z (y ∷ ys) h (suc zero) p = (each z y c (along-holds (f z y) ys h zero (omega arith))).1
  along-holds z (y ∷ ys) h (suc (suc i)) p = along-holds (f z y) ys h (suc i) (omega arith)

  overall-holds : (l : List ℤ) → R (overall f l) c → (i : ℕ) → i < length l → R (nth l i) c
  unfolding overall
  overall-holds [] h i p = absurd (omega arith)
  overall-holds (z ∷ l) h i p = along-holds z l h i p

-- ---- the two of them
either : (t : Bool) (a b : ℤ) → (cond t b a ≡ a) ⊎ (cond t b a ≡ b)
either true a b = inr refl
either false a b = inl refl

pub largest-among : (l : List ℤ) → 0 < length l → Among (largest l) l
largest-among = overall-among larger (λ a b. either (lt_z a b) a b)

pub smallest-among : (l : List ℤ) → 0 < length l → Among (smallest l) l
smallest-among = overall-among smaller (λ a b. either (lt_z b a) a b)

≤_trans : (a b c : ℤ) → a ≤ℤ b → b ≤ℤ c → a ≤ℤ c
≤_trans a b c = rw (split a, split b, split c) (simp zs (omega arith))

<-≤ : (a b : ℤ) → a <ℤ b → a ≤ℤ b
<-≤ a b = rw (split a, split b) (simp zs (omega arith))

-- what is at least the largest is at least each, and what is at most the smallest is at most each
pub below_each : (c : ℤ) (l : List ℤ) → largest l ≤ℤ c → (i : ℕ) → i < length l → nth l i ≤ℤ c
below_each = overall-holds larger (λ z c. z ≤ℤ c) both
  where
    both : (a b c : ℤ) → larger a b ≤ℤ c → (a ≤ℤ c) × (b ≤ℤ c)
    both a b c = by (lt_z a b) refl
      where
        by : (t : Bool) → lt_z a b ≡ t → cond t b a ≤ℤ c → (a ≤ℤ c) × (b ≤ℤ c)
        by true e h = (≤_trans a b c (<-≤ a b (is_lt e)) h, h)
        by false e h = (h, ≤_trans b a c (is_ge e) h)

pub above-each : (c : ℤ) (l : List ℤ) → c ≤ℤ smallest l → (i : ℕ) → i < length l → c ≤ℤ nth l i
above-each = overall-holds smaller (λ z c. c ≤ℤ z) both
  where
    both : (a b c : ℤ) → c ≤ℤ smaller a b → (c ≤ℤ a) × (c ≤ℤ b)
    both a b c = by (lt_z b a) refl
      where
        by : (t : Bool) → lt_z b a ≡ t → c ≤ℤ cond t b a → (c ≤ℤ a) × (c ≤ℤ b)
        by true e h = (≤_trans c b a h (<-≤ b a (is_lt e)), h)
        by false e h = (h, ≤_trans c a b h (is_ge e))
