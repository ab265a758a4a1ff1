-- The law of rows, for any rows and any indices: a row's amplitude times the sine of its angle, of the arguments themselves, is the value of the term
-- that it stands for, at every q.
use mathlib.Core.Path.{◌≡◌, refl, sym, ap, ap₂, ◌∙◌}
use mathlib.Core.Bool.{Bool, true, false}
use mathlib.Core.List.{List, [], ◌∷◌}
use Prim.Native.Nat.{ℕ, suc, ◌≤◌, ◌^◌}
use native.Mathlib.Nat.{le_refl}
use native.Mathlib.Omega.{arith}
use lib.Dec.{eqb}
use lib.IntN.{ℤ, pos, nat_abs, ◌+ℤ◌, ◌*ℤ◌}
use lib.ListN.{length, get_or}
use borrow.Author.Tests.{eqb-true}
use Rattle.exact.specs.Reduction.{reduced}
use Rattle.exact.specs.Nth.{nth}
use Rattle.exact.proofs.Differences.{split, zs}
use Rattle.exact.proofs.Integers.{abs-zero}
use Rattle.secular.specs.FlooredPolynomial as secular
use Rattle.series.specs.Term.{Part, part, angle_of, value}
use Rattle.series.specs.Notation.{none}
use Rattle.series.specs.Rows.{parts, keep, kept, steady_term, steady_angle, varying_term}
use Rattle.series.proofs.Sums.{steady}

-- ---- the parts of an angle
module _ (arguments : List ℤ) where
  sum_of : List Part → ℤ
  sum_of [] = pos 0
  sum_of (p ∷ ps) = part arguments p +ℤ sum_of ps

  -- those that are left out come to nothing
  kept-sum : (ps : List Part) → sum_of (kept ps) ≡ sum_of ps
  unfolding kept sum_of
  kept-sum [] = refl
  kept-sum (p ∷ ps) = go (eqb (nat_abs p.times) 0) refl (kept-sum ps)
    where
      zero_left : (z x y : ℤ) → z ≡ pos 0 → y ≡ z *ℤ x +ℤ y
      zero_left z x y e = rw (e, split x, split y) (simp zs (omega arith))

      go : (b : Bool) → eqb (nat_abs p.times) 0 ≡ b → sum_of (kept ps) ≡ sum_of ps → sum_of (keep b p (kept ps)) ≡ part arguments p +ℤ sum_of ps
      go true e h = h ∙ zero_left p.times (get_or arguments p.index (pos 0)) (sum_of ps) (abs-zero p.times (eqb-true _ _ e))
      go false e h = ap (λ (z : ℤ). part arguments p +ℤ z) h

  kept-length : (ps : List Part) → length (kept ps) ≤ length ps
  unfolding kept
  kept-length [] = le_refl 0
  kept-length (p ∷ ps) = go (eqb (nat_abs p.times) 0) (kept-length ps)
    where
      go : (b : Bool) → length (kept ps) ≤ length ps → length (keep b p (kept ps)) ≤ suc (length ps)
      go true h = omega arith
      go false h = omega arith

  -- a term's three parts hold them
  three-parts : (k : ℤ) (ps : List Part) → length ps ≤ 3
      → k +ℤ part arguments (get_or ps 0 none) +ℤ part arguments (get_or ps 1 none) +ℤ part arguments (get_or ps 2 none) ≡ k +ℤ sum_of ps
  unfolding sum_of
  three-parts k ps h = go k (part arguments (get_or ps 0 none)) (part arguments (get_or ps 1 none)) (part arguments (get_or ps 2 none)) ∙ ap (λ (z : ℤ). k +ℤ z) (held ps h)
    where
      go : (k a b c : ℤ) → k +ℤ a +ℤ b +ℤ c ≡ k +ℤ (a +ℤ (b +ℤ (c +ℤ pos 0)))
      go k a b c = rw (split k, split a, split b, split c) (simp zs (omega arith))

      two : (x y : ℤ) → pos 0 *ℤ x +ℤ y ≡ y
      two x y = rw (split x, split y) (simp zs (omega arith))

      held : (ps : List Part) → length ps ≤ 3
          → part arguments (get_or ps 0 none) +ℤ (part arguments (get_or ps 1 none) +ℤ (part arguments (get_or ps 2 none) +ℤ pos 0)) ≡ sum_of ps
      held [] h = simp two refl
      held (p ∷ []) h = simp two refl
      held (p ∷ q ∷ []) h = simp two refl
      held (p ∷ q ∷ r ∷ []) h = refl
      held (p ∷ q ∷ r ∷ s ∷ ps) h = absurd (omega arith)

  -- ---- a row
  module _ (f : ℕ → ℤ) (q : ℤ) where
    pub steady-value : (i j k : ℕ) (row : List ℤ)
        → nth row 0 *ℤ f (reduced (steady_angle row (get_or arguments i (pos 0)) (get_or arguments j (pos 0)) (get_or arguments k (pos 0))))
        ≡ value f arguments q (steady_term i j k row)
    unfolding value angle_of steady_term steady_angle sum_of
    steady-value i j k row =
        let ps = parts i j k row in
        let z = nth row 1 in
        ap₂ (λ (c a : ℤ). c *ℤ f (reduced a)) (steady (nth row 0) q)
        (three-parts z ps (omega arith) ∙ ap (λ (w : ℤ). z +ℤ w) (sym (kept-sum ps)) ∙ sym (three-parts z (kept ps) (kept-length ps)))

    pub varying-value : (row : List ℤ)
        → secular.value (secular.polynomial (nth row 0) (nth row 1) (nth row 2) (10 ^ 12)) q *ℤ f (reduced (nth row 3 +ℤ nth row 4 *ℤ get_or arguments (nat_abs (nth row 5)) (pos 0)))
        ≡ value f arguments q (varying_term row)
    unfolding value angle_of varying_term
    varying-value row =
        ap (λ (a : ℤ). secular.value (secular.polynomial (nth row 0) (nth row 1) (nth row 2) (10 ^ 12)) q *ℤ f (reduced a))
        (go (nth row 3 +ℤ nth row 4 *ℤ get_or arguments (nat_abs (nth row 5)) (pos 0)) (get_or arguments 0 (pos 0)))
      where
        go : (k x : ℤ) → k ≡ k +ℤ pos 0 *ℤ x +ℤ pos 0 *ℤ x
        go k x = rw (split k, split x) (simp zs (omega arith))
