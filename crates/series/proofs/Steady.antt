-- The amplitudes of a list at q: those that are the same at every q make one number, which antt computes, and only those that vary are left over.
use mathlib.Core.Path.{◌≡◌, refl, sym}
use mathlib.Core.Bool.{Bool, true, false, cond, ◌&&◌}
use mathlib.Core.List.{List, [], ◌∷◌, ◌++◌}
use Prim.Native.Nat.{ℕ, ◌+◌}
use native.Mathlib.Omega.{arith}
use lib.Dec.{eqb}
use lib.IntN.{ℤ, nat_abs}
use borrow.Author.Tests.{eqb-true}
use Rattle.exact.proofs.Integers.{abs-zero}
use Rattle.exact.proofs.Machine.{and-true}
use Rattle.series.specs.Term.{Term, amplitude_of}
use Rattle.series.specs.Sum.{amplitudes}
use Rattle.series.proofs.Sums.{steady}

abbrev is_steady : Term → Bool
is_steady t = eqb (nat_abs t.c1) 0 && eqb (nat_abs t.c2) 0

unfoldable pub steady_sum : List Term → ℕ
steady_sum [] = 0
steady_sum (t ∷ ts) = cond (is_steady t) (nat_abs t.c0) 0 + steady_sum ts

unfoldable pub varying : List Term → List Term
varying [] = []
varying (t ∷ ts) = cond (is_steady t) [] (t ∷ []) ++ varying ts

steady-is : (t : Term) (q : ℤ) → is_steady t ≡ true → amplitude_of t q ≡ t.c0
steady-is t q e =
    let h = and-true (eqb (nat_abs t.c1) 0) (eqb (nat_abs t.c2) 0) e in
    rw (abs-zero t.c1 (eqb-true _ _ h.0), abs-zero t.c2 (eqb-true _ _ h.1)) (sym (steady t.c0 q))

pub amplitudes-split : (ts : List Term) (q : ℤ) → amplitudes ts q ≡ steady_sum ts + amplitudes (varying ts) q
unfolding amplitudes steady_sum varying
amplitudes-split [] q = refl
amplitudes-split (t ∷ ts) q = by (is_steady t) refl (amplitudes-split ts q)
  where
    by : (b : Bool) → is_steady t ≡ b → amplitudes ts q ≡ steady_sum ts + amplitudes (varying ts) q
        → nat_abs (amplitude_of t q) + amplitudes ts q ≡ cond b (nat_abs t.c0) 0 + steady_sum ts + amplitudes (cond b [] (t ∷ []) ++ varying ts) q
    by true e r = rw (steady-is t q e) (omega arith)
    by false e r = omega arith
