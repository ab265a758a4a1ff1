-- The largest number that passes a test, what a search for it knows on its way, and the integer square root by it; the greatest value of a function over
-- a run of numbers.
use Rattle.std.specs.Prelude.{◌≡◌, Bool, true, false, cond, ℕ, zero, suc, ◌+◌, ◌*◌, ◌≤◌, max, leb}

-- the largest number below n that passes, and 0 where none does
unfoldable pub largest : (ℕ → Bool) → ℕ → ℕ
largest p zero = 0
largest p (suc n) = cond (p n) n (largest p n)

-- of a test p that fails from some number on: the last number that passes is one of the `width` ones from `low` on, and none of them is beyond `end`
pub record Among (p : ℕ → Bool) (low width end : ℕ) : Type 0 where
  pub within : low + width ≤ end
  pub yes : p low ≡ true
  pub no : p (low + width) ≡ false

-- the root of document 01, "The horizon" (RULES.md, "The horizon"): the largest h whose square does not exceed x. None beyond x has such a square.
unfoldable pub root : ℕ → ℕ
root x = largest (λ h. leb (h * h) x) (suc x)

-- the greatest of f low, f (low + 1), .. , f (low + k). No proof computes it: the laws `greatest-ge` and `greatest-le` hold it between two numbers
unfoldable pub greatest : (ℕ → ℕ) → ℕ → ℕ → ℕ
greatest f low zero = f low
greatest f low (suc k) = max (f (low + suc k)) (greatest f low k)
