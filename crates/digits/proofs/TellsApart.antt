-- The text tells numbers apart: equal texts are texts of equal numbers, for all whole numbers. So what is read out shows exactly the number that was
-- heard.
use mathlib.Core.Path.{◌≡◌, refl, sym, ap, ◌∙◌}
use mathlib.Core.Bool.{cond}
use mathlib.Core.List.{List, [], ◌∷◌, ◌++◌}
use Prim.Native.Nat.{ℕ, suc, ◌+◌, ◌-◌, ◌*◌, ◌/◌, ◌%◌}
use native.Mathlib.Omega.{arith}
use lib.Dec.{eqb}
use lib.IntN.{ℤ, pos, negsuc, nat_abs}
use lib.ListN.{length}
use borrow.Author.Tests.{ne_eqb}
use Rattle.digits.specs.Text.{digits, text}
use Rattle.digits.proofs.Decimal.{digits-one, digits_more, by-tens}

-- the number that a text shows, with n read so far: a space is passed over, and "-" counts as a 0
value : ℕ → List ℕ → ℕ
value n [] = n
value n (b ∷ l) = value (cond (eqb b 32) n (10 * n + (b - 48))) l

value-append : (n : ℕ) (l m : List ℕ) → value n (l ++ m) ≡ value (value n l) m
unfolding value
value-append n [] m = refl
value-append n (b ∷ l) m = value-append (cond (eqb b 32) n (10 * n + (b - 48))) l m

value-digit : (n d : ℕ) → value n ((48 + d) ∷ []) ≡ 10 * n + d
unfolding value
value-digit n d = rw (ne_eqb (48 + d) 32 (λ e. omega arith)) (omega arith)

-- the value of n's digits is n
value-digits : (n : ℕ) → value 0 (digits n) ≡ n
unfolding value
value-digits =
    by-tens {P = λ n. value 0 (digits n) ≡ n} (λ n h. rw (digits-one n h) (value-digit 0 n ∙ omega arith)) λ n h e.
    rw (digits_more n h, value-append, e) (value-digit (n / 10) (n % 10) ∙ omega arith)

value-text : (z : ℤ) → value 0 (text z) ≡ nat_abs z
unfolding value
value-text (pos n) = value-digits n
value-text (negsuc n) = value-digits (suc n)

-- "-" and a space are not part of any digits: the lengths would differ
sign-shows : (m n : ℕ) → m ≡ suc n → digits m ≡ 45 ∷ 32 ∷ digits (suc n) → ⊥
sign-shows m n e t = let l = ap length t in let k = ap (λ i. length (digits i)) e in omega arith

-- equal magnitudes and equal texts
by_sign : (y z : ℤ) → nat_abs y ≡ nat_abs z → text y ≡ text z → y ≡ z
by_sign (pos m) (pos n) e t = ap pos e
by_sign (pos m) (negsuc n) e t = absurd (sign-shows m n e t)
by_sign (negsuc m) (pos n) e t = absurd (sign-shows n m (sym e) (sym t))
by_sign (negsuc m) (negsuc n) e t = ap negsuc (omega arith)

pub text-tells-apart : (y z : ℤ) → text y ≡ text z → y ≡ z
text-tells-apart y z t = by_sign y z (sym (value-text y) ∙ ap (value 0) t ∙ value-text z) t
