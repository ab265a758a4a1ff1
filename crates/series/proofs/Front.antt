-- A sum looks at no argument beyond those that its terms name: with others behind them in the list, it is the same.
use mathlib.Core.Path.{◌≡◌, refl, ap, ap₂}
use mathlib.Core.Bool.{◌&&◌}
use mathlib.Core.List.{List, [], ◌∷◌, ◌++◌}
use Prim.Native.Nat.{ℕ}
use lib.Dec.{T, ltb→lt}
use lib.IntN.{ℤ, pos, ◌+ℤ◌, ◌*ℤ◌}
use lib.ListN.{length, get_or-append}
use Rattle.exact.specs.Division.{nearest_div}
use Rattle.exact.proofs.AllBelow.{and_l, and_r}
use Rattle.sine_table.specs.Table.{R}
use Rattle.sine.specs.Sine.{Sin}
use Rattle.series.specs.Term.{Part, Term, part, amplitude_of, angle_of, value}
use Rattle.series.specs.Sum.{total, table_sum}
use Rattle.series.proofs.Names.{names, name_first}

module _ (front behind : List ℤ) where
  abbrev k : ℕ
  k = length front

  same-part : (p : Part) → T (names k p) → part (front ++ behind) p ≡ part front p
  same-part p h = ap (λ (z : ℤ). p.times *ℤ z) (get_or-append front behind (pos 0) p.index (ltb→lt _ _ h))

  same-angle : (t : Term) → T (names k t.first && (names k t.second && names k t.third)) → angle_of (front ++ behind) t ≡ angle_of front t
  unfolding angle_of
  same-angle t h =
      let a = names k t.first in
      let b = names k t.second in
      let c = names k t.third in
      let u = and_r a (b && c) h in
      let x = same-part t.first (and_l a (b && c) h) in
      let y = same-part t.second (and_l b c u) in
      let z = same-part t.third (and_r b c u) in
      rw (x, y, z) refl

  pub total-front : (f : ℕ → ℤ) (q : ℤ) (ts : List Term) → T (name_first k ts) → total f (front ++ behind) q ts ≡ total f front q ts
  unfolding total value
  total-front f q [] h = refl
  total-front f q (t ∷ ts) h =
      let a = names k t.first && (names k t.second && names k t.third) in
      ap₂ ◌+ℤ◌ (ap (λ (n : ℕ). amplitude_of t q *ℤ f n) (same-angle t (and_l a (name_first k ts) h))) (total-front f q ts (and_r a (name_first k ts) h))

  pub table-sum-front : (q : ℤ) (ts : List Term) → T (name_first k ts) → table_sum (front ++ behind) q ts ≡ table_sum front q ts
  unfolding table_sum
  table-sum-front q ts h = ap (λ (z : ℤ). nearest_div z R) (total-front Sin q ts h)
