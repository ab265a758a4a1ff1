-- A loop over a list of terms, of any kind of row: in each round the sum so far and the terms that are left give the whole. So no sum leaves 64 bits,
-- whatever the order of the terms.
use mathlib.Core.Path.{◌≡◌, sym, ap, subst, ◌∙◌}
use mathlib.Core.List.{List, [], ◌∷◌, ◌++◌, map}
use Prim.Native.Nat.{ℕ, suc, ◌*◌, ◌≤◌, ◌<◌}
use native.Mathlib.Nat.{le_trans}
use native.Mathlib.Omega.{arith}
use lib.IntN.{ℤ, pos, nat_abs, ◌+ℤ◌}
use lib.ListN.{length, get_or, drop, drop_of_length-le}
use lib.Seq.{drop-cons}
use mir.Syntax.{w64}
use mir.Val.{SFits}
use Rattle.exact.proofs.Differences.{split, zs}
use Rattle.secular.specs.Sizes.{most_millionths}
use Rattle.sine_table.specs.Table.{R}
use Rattle.sine.specs.Sine.{Sin}
use Rattle.series.specs.Term.{Term, value}
use Rattle.series.specs.Sum.{total, weights}
use Rattle.series.specs.Rows.{group_terms, steady_terms}
use Rattle.series.specs.Sizes.{heaviest}
use Rattle.series.specs.declared.Group.{Group}
use Rattle.series.proofs.Sums.{shift, zero_left, zero_right, total-append, weights-append, sum-le}

pub lights : (some rest : List Term) → weights (some ++ rest) ≤ heaviest → (weights some ≤ heaviest) × (weights rest ≤ heaviest)
lights some rest h = let e = weights-append some rest in (omega arith, omega arith)

module _ (arguments : List ℤ) (q : ℤ) where
  abbrev sum_of : List Term → ℤ
  sum_of terms = total Sin arguments q terms

  abbrev pub Left : List Term → List Term → ℤ → Type 0
  Left whole left sum = (sum +ℤ sum_of left ≡ sum_of whole) × (weights left ≤ heaviest)

  pub left-all : (whole : List Term) → weights whole ≤ heaviest → Left whole whole (pos 0)
  left-all whole light = (zero_left (sum_of whole), light)

  pub left-none : (whole : List Term) (sum : ℤ) → Left whole [] sum → sum ≡ sum_of whole
  unfolding total
  left-none whole sum l = zero_right (sum) ∙ l.0

  -- a round adds p, the sum of some terms, and leaves the others
  module _ (whole some rest : List Term) (sum p : ℤ) (l : Left whole (some ++ rest) sum) (is : p ≡ sum_of some) where
    next : sum +ℤ p +ℤ sum_of rest ≡ sum_of whole
    next =
        sym (shift (sum) p (sum_of rest))
        ∙ ap (λ (z : ℤ). sum +ℤ z) (ap (λ (z : ℤ). z +ℤ sum_of rest) is ∙ total-append Sin arguments q some rest)
        ∙ l.0

    pub left-fits : nat_abs q ≤ most_millionths → weights whole ≤ heaviest → SFits w64 (sum +ℤ p)
    left-fits h light =
        go (sum +ℤ p) (sum_of rest) (sum_of whole) next
        (le_trans (sum-le arguments q h rest) (omega (arith, (lights some rest l.1).1))) (le_trans (sum-le arguments q h whole) (omega arith))
      where
        go : (s r w : ℤ) → s +ℤ r ≡ w → nat_abs r ≤ R * heaviest → nat_abs w ≤ R * heaviest → SFits w64 s
        go s r w = rw (split s, split r, split w) (simp zs (omega arith))

    pub left-next : Left whole rest (sum +ℤ p)
    left-next = (next, (lights some rest l.1).1)

  -- ---- rows that stand for a term each, by any function g
  module _ (g : List ℤ → Term) (rows : List (List ℤ)) where
    abbrev pub RowsLeft : ℕ → ℤ → Type 0
    RowsLeft i sum = Left (map g rows) (map g (drop i rows)) sum

    module _ (i : ℕ) (sum p : ℤ) (h : i < length rows) (l : RowsLeft i sum) (is : p ≡ value Sin arguments q (g (get_or rows i []))) where
      one : p ≡ sum_of (g (get_or rows i []) ∷ [])
      unfolding total
      one = is ∙ zero_right (value Sin arguments q (g (get_or rows i [])))

      split_off : Left (map g rows) ((g (get_or rows i []) ∷ []) ++ map g (drop (suc i) rows)) sum
      split_off = subst (λ (rs : List (List ℤ)). Left (map g rows) (map g rs) sum) (drop-cons rows i [] h) l

      pub row_fits : nat_abs q ≤ most_millionths → weights (map g rows) ≤ heaviest → SFits w64 (sum +ℤ p)
      row_fits = left-fits (map g rows) (g (get_or rows i []) ∷ []) (map g (drop (suc i) rows)) sum p split_off one

      pub row_next : RowsLeft (suc i) (sum +ℤ p)
      row_next = left-next (map g rows) (g (get_or rows i []) ∷ []) (map g (drop (suc i) rows)) sum p split_off one

    pub rows-sum : (i : ℕ) (sum : ℤ) → length rows ≤ i → RowsLeft i sum → sum ≡ sum_of (map g rows)
    rows-sum i sum h l =
        left-none (map g rows) sum (subst (λ (rs : List (List ℤ)). Left (map g rows) (map g rs) sum) (drop_of_length-le rows {i = i} h) l)

-- ---- groups: the one at i, and those behind it
pub groups-next : (groups : List Group) (i : ℕ) (beyond : Group) → i < length groups
    → steady_terms (drop i groups) ≡ group_terms (get_or groups i beyond) ++ steady_terms (drop (suc i) groups)
unfolding steady_terms
groups-next groups i beyond h = ap steady_terms (drop-cons groups i beyond h)
