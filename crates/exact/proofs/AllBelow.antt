-- A rule of every number below n, from one test that antt computes over all of them; and order from one number to the next.
use mathlib.Core.Bool.{Bool, true, false, ◌&&◌}
use mathlib.Core.List.{List, [], ◌∷◌}
use mathlib.Core.Logic.{⊎_elim}
use Prim.Native.Nat.{ℕ, zero, suc, ◌+◌, ◌-◌, ◌≤◌, ◌<◌}
use native.Mathlib.Nat.{not-suc-le-zero, eq-or-lt_of_le, le_of_suc-le-suc, le_refl, le_trans, add-zero, add-suc, add-sub_of_le}
use native.Mathlib.Omega.{arith}
use lib.Dec.{T, leb, leb→le}

pub and_l : (a b : Bool) → T (a && b) → T a
and_l true b t = tt
and_l false b t = t

pub and_r : (a b : Bool) → T (a && b) → T b
and_r true b t = t
and_r false b t = absurd t

-- the test, and what it says: of the rows of a table p is a test of the i-th row
abbrev pub all_below : (ℕ → Bool) → ℕ → Bool
all_below p zero = true
all_below p (suc n) = p n && all_below p n

pub below_all : (p : ℕ → Bool) (n i : ℕ) → T (all_below p n) → i < n → T (p i)
below_all p zero i t h = absurd (not-suc-le-zero h)
below_all p (suc n) i t h =
    ⊎_elim (λ e. rw e (and_l (p n) (all_below p n) t)) (λ l. below_all p n i (and_r (p n) (all_below p n) t) l) (eq-or-lt_of_le (le_of_suc-le-suc h))

-- ---- several pairs, tested together: the first of each is at most the second
abbrev pub all_le : List (ℕ × ℕ) → Bool
all_le [] = true
all_le (p ∷ ps) = leb p.0 p.1 && all_le ps

abbrev pub AllLe : List (ℕ × ℕ) → Type 0
AllLe [] = Unit
AllLe (p ∷ ps) = (p.0 ≤ p.1) × AllLe ps

pub all-le : (ps : List (ℕ × ℕ)) → T (all_le ps) → AllLe ps
all-le [] t = tt
all-le (p ∷ ps) t = (leb→le p.0 p.1 (and_l (leb p.0 p.1) (all_le ps) t), all-le ps (and_r (leb p.0 p.1) (all_le ps) t))

-- ---- what does not fall from a number to the next does not fall
module _ (f : ℕ → ℕ) (m : ℕ) (next : (n : ℕ) → n < m → f n ≤ f (suc n)) where
  climb : (a k : ℕ) → a + k ≤ m → f a ≤ f (a + k)
  climb a zero h = rw add-zero (le_refl (f a))
  climb a (suc k) h = rw add-suc (le_trans (climb a k (omega arith)) (next (a + k) (omega arith)))

  pub climbs : (a b : ℕ) → a ≤ b → b ≤ m → f a ≤ f b
  climbs a b h k = rw (add-sub_of_le h) at (climb a (b - a) (omega arith))
