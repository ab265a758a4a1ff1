-- The law of any two lists of terms, request 8: with any function for the sine that is at most k in magnitude, their sums are at most k times as far
-- apart as their changes come to. So the sums with the sine, each divided by R and rounded once, are no further apart than the dropped amplitudes: whole
-- numbers that far apart stay so where both are rounded, and the unit more that request 8 allows is not needed.
use mathlib.Core.Path.{◌≡◌, refl, sym, ap, ap₂, subst⁻¹, ◌∙◌}
use mathlib.Core.Bool.{Bool, true, false, cond, ◌&&◌}
use mathlib.Core.List.{List, [], ◌∷◌, ◌++◌, map}
use Prim.Native.Nat.{ℕ, ◌+◌, ◌*◌, ◌≤◌, ◌<◌}
use native.Mathlib.Nat.{le_refl, le_trans, le_of_lt}
use native.Mathlib.Omega.{arith}
use borrow.Author.Tests.{eqb-true}
use lib.Dec.{eqb, lit<}
use lib.IntN.{ℤ, pos, neg_ℤ, nat_abs, ◌+ℤ◌, ◌-ℤ◌, ◌*ℤ◌}
use Rattle.exact.specs.Range.{same}
use Rattle.exact.specs.Reduction.{turn}
use Rattle.exact.proofs.Choice.{same_true}
use Rattle.exact.proofs.Differences.{split, zs}
use Rattle.exact.proofs.Division.{Within, nearest-within}
use Rattle.exact.proofs.Integers.{abs_neg, abs-*-le}
use Rattle.exact.proofs.Machine.{and-true}
use Rattle.sine_table.specs.Table.{R}
use Rattle.sine.specs.Sine.{Sin}
use Rattle.sine.proofs.Monotonicity.{sin-range}
use Rattle.series.specs.Term.{Part, Term, amplitude_of, part, angle_of, value}
use Rattle.series.specs.Sum.{total, table_sum, amplitudes}
use Rattle.series.specs.Compared.{same_part, same_angle, same_amplitude, silent, counterpart, others, Change, change, added, gone, changed, changes, cost, costs, dropped}
use Rattle.series.proofs.Sums.{steady, angle-lt, total-le}

-- ---- what the tests say
same-part : (arguments : List ℤ) (p r : Part) → same_part p r ≡ true → part arguments p ≡ part arguments r
same-part arguments p r e =
    let h = and-true (same p.times r.times) (eqb p.index r.index) e in
    let t = same_true p.times r.times h.0 in
    let l = eqb-true p.index r.index h.1 in
    cc

same-angle : (arguments : List ℤ) (t u : Term) → same_angle t u ≡ true → angle_of arguments t ≡ angle_of arguments u
unfolding same_angle angle_of
same-angle arguments t u e =
    let p = same_part t.first u.first in
    let r = same_part t.second u.second in
    let s = same_part t.third u.third in
    let h = and-true (same t.phase u.phase) (p && (r && s)) e in
    let i = and-true p (r && s) h.1 in
    let j = and-true r s i.1 in
    let k = same_true t.phase u.phase h.0 in
    let a = same-part arguments t.first u.first i.0 in
    let b = same-part arguments t.second u.second j.0 in
    let c = same-part arguments t.third u.third j.1 in
    cc

same-amplitude : (t u : Term) (q : ℤ) → same_amplitude t u ≡ true → amplitude_of u q ≡ amplitude_of t q
unfolding same_amplitude
same-amplitude t u q e =
    let b = same t.c1 u.c1 in
    let c = same t.c2 u.c2 in
    let h = and-true (same t.c0 u.c0) (b && c) e in
    let i = and-true b c h.1 in
    let x = same_true t.c0 u.c0 h.0 in
    let y = same_true t.c1 u.c1 i.0 in
    let z = same_true t.c2 u.c2 i.1 in
    cc

-- ---- terms that one list alone has cost their amplitudes
module _ (q : ℤ) where
  lone : (z : ℤ) → (z -ℤ pos 0 ≡ z) × (pos 0 -ℤ z ≡ neg_ℤ z)
  lone z = rw (split z) (simp zs (omega arith))

  pub added-costs : (us : List Term) → costs q (map added us) ≡ amplitudes us q
  unfolding costs amplitudes
  added-costs [] = refl
  added-costs (u ∷ us) = rw (← steady (pos 0) q, (lone (amplitude_of u q)).0, added-costs us) refl

  gone-cost : (t : Term) → cost q (gone t) ≡ nat_abs (amplitude_of t q)
  gone-cost t =
      let a = amplitude_of t q in
      ap (λ (z : ℤ). nat_abs (z -ℤ a)) (sym (steady (pos 0) q)) ∙ ap nat_abs (lone a).1 ∙ abs_neg a

  gone-costs : (ts : List Term) → costs q (map gone ts) ≡ amplitudes ts q
  unfolding costs amplitudes
  gone-costs [] = refl
  gone-costs (t ∷ ts) = ap₂ ◌+◌ (gone-cost t) (gone-costs ts)

-- ---- the law
module _ (f : ℕ → ℤ) (k : ℕ) (bound : (a : ℕ) → a < turn → nat_abs (f a) ≤ k) (arguments : List ℤ) (q : ℤ) where
  abbrev at : Term → ℤ
  at t = value f arguments q t

  abbrev sum : List Term → ℤ
  sum ts = total f arguments q ts

  -- a sum is that of the counterpart of any term, which has its angle, and of the others
  counterpart-angle : (u : Term) (ts : List Term) → angle_of arguments (counterpart u ts) ≡ angle_of arguments u
  unfolding counterpart angle_of
  counterpart-angle u [] = refl
  counterpart-angle u (t ∷ ts) = by (same_angle t u) refl (counterpart-angle u ts)
    where
      by : (b : Bool) → same_angle t u ≡ b → angle_of arguments (counterpart u ts) ≡ angle_of arguments u
          → angle_of arguments (cond b t (counterpart u ts)) ≡ angle_of arguments u
      by true e h = same-angle arguments t u e
      by false e h = h

  silent-value : (u : Term) → at (silent u) ≡ pos 0
  unfolding value
  silent-value u = rw (← steady (pos 0) q) (nothing (f (angle_of arguments (silent u))))
    where
      nothing : (x : ℤ) → pos 0 *ℤ x ≡ pos 0
      nothing x = rw (split x) (simp zs (omega arith))

  taken : (u : Term) (ts : List Term) → sum ts ≡ at (counterpart u ts) +ℤ sum (others u ts)
  unfolding counterpart others total
  taken u [] = rw (silent-value u) refl
  taken u (t ∷ ts) = by (same_angle t u) (taken u ts)
    where
      exchanged : (a b c : ℤ) → a +ℤ (b +ℤ c) ≡ b +ℤ (a +ℤ c)
      exchanged a b c = rw (split a, split b, split c) (simp zs (omega arith))

      by : (b : Bool) → sum ts ≡ at (counterpart u ts) +ℤ sum (others u ts)
          → at t +ℤ sum ts ≡ at (cond b t (counterpart u ts)) +ℤ sum (cond b ts (t ∷ others u ts))
      by true h = refl
      by false h = ap (λ (z : ℤ). at t +ℤ z) h ∙ exchanged (at t) (at (counterpart u ts)) (sum (others u ts))

  -- two terms of one angle are as far apart as their amplitudes, k times
  change-le : (t u : Term) → angle_of arguments t ≡ angle_of arguments u → nat_abs (at u -ℤ at t) ≤ k * cost q (change t u)
  unfolding value
  change-le t u e =
      let d = amplitude_of u q -ℤ amplitude_of t q in
      rw (e, factor (amplitude_of u q) (amplitude_of t q) (f (angle_of arguments u)))
      (le_trans (abs-*-le d (f (angle_of arguments u)) (nat_abs d) k (le_refl _) (bound _ (angle-lt arguments u))) (omega arith))
    where
      factor : (a b x : ℤ) → a *ℤ x -ℤ b *ℤ x ≡ (a -ℤ b) *ℤ x
      factor a b x = rw (split a, split b, split x) (simp zs (omega arith))

  -- also where the amplitude is the same, which is no change
  changed-le : (t u : Term) → angle_of arguments t ≡ angle_of arguments u → nat_abs (at u -ℤ at t) ≤ k * costs q (changed t u)
  unfolding costs value
  changed-le t u e = by (same_amplitude t u) refl
    where
      level : (z : ℤ) → nat_abs (z -ℤ z) ≤ 0
      level z = rw (split z) (simp zs (omega arith))

      by : (b : Bool) → same_amplitude t u ≡ b → nat_abs (at u -ℤ at t) ≤ k * costs q (cond b [] (change t u ∷ []))
      by true h = rw (e, same-amplitude t u q h) (le_trans (level (amplitude_of t q *ℤ f (angle_of arguments u))) (omega arith))
      by false h = le_trans (change-le t u e) (omega arith)

  costs-append : (cs ds : List Change) → costs q (cs ++ ds) ≡ costs q cs + costs q ds
  unfolding costs
  costs-append [] ds = omega arith
  costs-append (c ∷ cs) ds = let e = costs-append cs ds in omega arith

  pub compared : (ts us : List Term) → Within (sum us) (sum ts) (k * dropped ts us q)
  unfolding total changes
  compared ts [] =
      nothing (sum ts) (k * dropped ts [] q) (subst⁻¹ (λ (n : ℕ). nat_abs (sum ts) ≤ k * n) (gone-costs q ts) (total-le f k bound arguments q ts))
    where
      nothing : (z : ℤ) (n : ℕ) → nat_abs z ≤ n → Within (pos 0) z n
      nothing z n = rw (split z) (simp zs (omega arith))
  compared ts (u ∷ us) =
      let t = counterpart u ts in
      rw (taken u ts, costs-append (changed t u) (changes (others u ts) us))
      (two (at t) (at u) (sum us) (sum (others u ts)) _ _ (changed-le t u (counterpart-angle u ts)) (compared (others u ts) us))
    where
      two : (t u z w : ℤ) (c n : ℕ) → nat_abs (u -ℤ t) ≤ k * c → Within z w (k * n) → Within (u +ℤ z) (t +ℤ w) (k * (c + n))
      two t u z w c n = rw (split t, split u, split z, split w) (simp zs (omega arith))

-- with the sine, divided by R once and rounded
pub table-sums-apart : (arguments : List ℤ) (q : ℤ) (ts us : List Term) → Within (table_sum arguments q us) (table_sum arguments q ts) (dropped ts us q)
unfolding table_sum
table-sums-apart arguments q ts us =
    nearest-within (total Sin arguments q us) (total Sin arguments q ts) R (dropped ts us q) (lit< tt)
    (compared Sin R (λ a h. sin-range a (le_of_lt h)) arguments q ts us)
