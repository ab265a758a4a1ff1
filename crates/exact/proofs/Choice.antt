-- What the result of a choice says of the test: where it is not what the other way gives, the test went this way. A decision of what does not hold, and
-- the test of two numbers that are one.
use mathlib.Core.Path.{◌≡◌, refl, sym, ap}
use mathlib.Core.Bool.{Bool, true, false, cond, decide, true≢false}
use lib.IntN.{ℤ, pos, negsuc}
use borrow.Author.Tests.{eqb-true, eq-eqb}
use Rattle.exact.specs.Range.{same}

pub was-false : {X : Type 0} (b : Bool) (x y z : X) → (z ≡ x → ⊥) → z ≡ cond b x y → (b ≡ false) × (z ≡ y)
was-false true x y z n e = absurd (n e)
was-false false x y z n e = (refl, e)

pub was-true : {X : Type 0} (b : Bool) (x y z : X) → (z ≡ y → ⊥) → z ≡ cond b x y → (b ≡ true) × (z ≡ x)
was-true true x y z n e = (refl, e)
was-true false x y z n e = absurd (n e)

pub not-decided : {P : Type 0} (d : Dec P) → (P → ⊥) → decide d ≡ false
unfolding decide
not-decided (yes p) n = absurd (n p)
not-decided (no _) n = refl

pub same_true : (a b : ℤ) → same a b ≡ true → a ≡ b
same_true (pos a) (pos b) e = ap pos (eqb-true a b e)
same_true (pos a) (negsuc b) e = absurd (true≢false (sym e))
same_true (negsuc a) (pos b) e = absurd (true≢false (sym e))
same_true (negsuc a) (negsuc b) e = ap negsuc (eqb-true a b e)

pub same-itself : (a : ℤ) → same a a ≡ true
same-itself (pos a) = eq-eqb a a refl
same-itself (negsuc a) = eq-eqb a a refl
