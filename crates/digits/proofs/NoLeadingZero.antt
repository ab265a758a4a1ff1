-- The first decimal digit of a number above 0 is above 0.
use mathlib.Core.List.{[], ◌∷◌}
use Prim.Native.Nat.{ℕ, ◌/◌, ◌%◌, ◌<◌}
use native.Mathlib.Omega.{arith}
use lib.ListN.{get_or, get_or-append}
use Rattle.digits.specs.Text.{decimal}
use Rattle.digits.proofs.Decimal.{by-tens, decimal-one, decimal-more, decimal-some}

pub no-leading-zero : (n : ℕ) → 0 < n → 0 < get_or (decimal n) 0 0
no-leading-zero =
    by-tens {P = λ n. 0 < n → 0 < get_or (decimal n) 0 0} (λ n h p. rw (decimal-one n h) p) λ n h first p.
    rw (decimal-more n h, get_or-append (decimal (n / 10)) (n % 10 ∷ []) 0 0 (decimal-some (n / 10))) (first (omega arith))
