-- All results of a list are angles exactly where its smallest and its largest are.
use mathlib.Core.Path.{◌≡◌, refl, sym, ap₂, subst}
use mathlib.Core.Bool.{Bool, true, false, ◌&&◌}
use mathlib.Core.List.{List, [], ◌∷◌}
use Prim.Native.Nat.{ℕ, zero, suc, ◌-◌, ◌<◌}
use native.Mathlib.Omega.{arith}
use lib.IntN.{ℤ, pos}
use lib.ListN.{length}
use Rattle.exact.specs.Nth.{nth}
use Rattle.exact.specs.Reduction.{turn, is_reduced}
use Rattle.exact.proofs.Machine.{and-true, between-low, between-high, between-yes}
use Rattle.spread.specs.Spread.{largest, smallest, are_angles}
use Rattle.spread.proofs.Extremes.{Among, largest-among, smallest-among, below_each, above-each}

-- all are angles where each is
all-reduced : (l : List ℤ) → ((i : ℕ) → i < length l → is_reduced (nth l i) ≡ true) → are_angles l ≡ true
unfolding are_angles
all-reduced [] h = refl
all-reduced (z ∷ zs) h = ap₂ ◌&&◌ (h 0 (omega arith)) (all-reduced zs λ i p. h (suc i) (omega arith))

each-reduced : (l : List ℤ) → are_angles l ≡ true → (i : ℕ) → i < length l → is_reduced (nth l i) ≡ true
unfolding are_angles
each-reduced [] e i h = absurd (omega arith)
each-reduced (z ∷ zs) e zero h = (and-true (is_reduced z) (are_angles zs) e).0
each-reduced (z ∷ zs) e (suc i) h = each-reduced zs (and-true (is_reduced z) (are_angles zs) e).1 i (omega arith)

same : (p q : Bool) → (p ≡ true → q ≡ true) → (q ≡ true → p ≡ true) → p ≡ q
same true q f g = sym (f refl)
same false true f g = g refl
same false false f g = refl

module _ (l : List ℤ) (some : 0 < length l) where
  among-reduced : (z : ℤ) → Among z l → are_angles l ≡ true → is_reduced z ≡ true
  among-reduced z a e = subst (λ x. is_reduced x ≡ true) (sym a.is) (each-reduced l e a.index a.within)

  pub ends-decide : (is_reduced (smallest l) && is_reduced (largest l)) ≡ are_angles l
  ends-decide = same _ _ to from
    where
      to : (is_reduced (smallest l) && is_reduced (largest l)) ≡ true → are_angles l ≡ true
      to e =
          let p = and-true (is_reduced (smallest l)) (is_reduced (largest l)) e in
          all-reduced l λ i h. between-yes (pos 0) (nth l i) (pos (turn - 1)) (above-each (pos 0) l (between-low _ _ _ p.0) i h) (below_each (pos (turn - 1)) l (between-high _ _ _ p.1) i h)

      from : are_angles l ≡ true → (is_reduced (smallest l) && is_reduced (largest l)) ≡ true
      from e = ap₂ ◌&&◌ (among-reduced _ (smallest-among l some) e) (among-reduced _ (largest-among l some) e)
