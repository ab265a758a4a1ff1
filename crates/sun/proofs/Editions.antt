-- The full edition is the short one and what stands in `further`: the two sums add up to its sum, exactly, with any function for the sine. And what both
-- editions share names the first eleven arguments alone, so that four more behind them change nothing. Then what the numbers 1 and 2 stand for, and the
-- longitude of an edition by the arguments that both share.
use mathlib.Core.Path.{◌≡◌, refl, sym, ap, ap₂, ◌∙◌}
use mathlib.Core.Bool.{Bool, true, false, cond, decide_iff}
use mathlib.Core.List.{List, ◌++◌}
use Prim.Native.Nat.{ℕ}
use native.Mathlib.Omega.{arith}
use lib.IntN.{ℤ, pos, nat_abs, ℤ_discrete, ◌+ℤ◌, ◌-ℤ◌}
use Rattle.exact.specs.Decimal.{plus, minus, arc_seconds}
use Rattle.exact.specs.Division.{nearest_div}
use Rattle.exact.specs.Reduction.{reduced}
use Rattle.exact.proofs.Choice.{not-decided}
use Rattle.exact.proofs.Differences.{split, zs}
use Rattle.sine_table.specs.Table.{R}
use Rattle.sine.specs.Sine.{Sin}
use Rattle.epoch.specs.Epoch.{Epoch}
use Rattle.arguments.specs.Argument.{arguments_by}
use Rattle.arguments.specs.PrintedArguments.{P1, P2, P3, P4, rows, further_rows, arguments_of, full_arguments_of}
use Rattle.series.specs.Term.{Term, value}
use Rattle.series.specs.Sum.{total, table_sum}
use Rattle.series.specs.Notation.{term, sine, added, none}
use Rattle.series.proofs.Sums.{total-append, value-apart}
use Rattle.series.proofs.Front.{total-front, table-sum-front}
use Rattle.frame.specs.Nutation.{dpsi, dpsi_terms}
use Rattle.sun.specs.Series.{centre, long_period, moon, venus, short_terms, full_long_period, planets, full_terms, further}
use Rattle.sun.specs.Editions.{is_short, terms_of, arguments_for}
use Rattle.sun.specs.Longitude.{mean_longitude, first_sum, longitude_by, polynomial_by, apparent_longitude, polynomial_longitude}

module _ (f : ℕ → ℤ) (arguments : List ℤ) (q : ℤ) where
  -- v1 to v4 are the long period terms, w the part of the second that varies
  regrouped : (c v1 v2 w v3 v4 m v p : ℤ)
      → c +ℤ ((v1 +ℤ ((v2 +ℤ w) +ℤ (v3 +ℤ (v4 +ℤ pos 0)))) +ℤ (m +ℤ (v +ℤ p))) ≡ c +ℤ ((v1 +ℤ (v2 +ℤ (v3 +ℤ pos 0))) +ℤ (m +ℤ v)) +ℤ (w +ℤ (v4 +ℤ p))
  regrouped c v1 v2 w v3 v4 m v p = rw (split c, split v1, split v2, split w, split v3, split v4, split m, split v, split p) (simp zs (omega arith))

  abbrev sum : List Term → ℤ
  sum = total f arguments q

  -- the sum of lists one after the other
  fourfold : (a b c d e : List Term) → sum (a ++ (b ++ (c ++ (d ++ e)))) ≡ sum a +ℤ (sum b +ℤ (sum c +ℤ (sum d +ℤ sum e)))
  fourfold a b c d e =
      sym
      (ap (λ (z : ℤ). sum a +ℤ z)
      (ap (λ (z : ℤ). sum b +ℤ z)
      (ap (λ (z : ℤ). sum c +ℤ z) (total-append f arguments q d e) ∙ total-append f arguments q c (d ++ e))
      ∙ total-append f arguments q b (c ++ (d ++ e)))
      ∙ total-append f arguments q a (b ++ (c ++ (d ++ e))))

  threefold : (a b c d : List Term) → sum (a ++ (b ++ (c ++ d))) ≡ sum a +ℤ (sum b +ℤ (sum c +ℤ sum d))
  threefold a b c d =
      sym
      (ap (λ (z : ℤ). sum a +ℤ z)
      (ap (λ (z : ℤ). sum b +ℤ z) (total-append f arguments q c d) ∙ total-append f arguments q b (c ++ d))
      ∙ total-append f arguments q a (b ++ (c ++ d)))

  -- the long period terms, the second in two parts: what stays, which the short edition has, and what varies
  abbrev second : ℤ → ℤ → Term
  second c0 c1 = term c0 c1 (pos 0) (pos 0) (added 1 P2) none none

  abbrev c0 : ℤ
  c0 = arc_seconds (plus 1_882 3)

  abbrev c1 : ℤ
  c1 = arc_seconds (minus 16 3)

  abbrev v : Term → ℤ
  v = value f arguments q

  abbrev v1 : ℤ
  v1 = v (sine (plus 640 2) (added 1 P1) none none)

  abbrev v3 : ℤ
  v3 = v (sine (plus 202 3) (added 1 P3) none none)

  abbrev v4 : ℤ
  v4 = v (sine (plus 266 3) (added 1 P4) none none)

  long-period : sum full_long_period ≡ v1 +ℤ ((v (second c0 (pos 0)) +ℤ v (second (pos 0) c1)) +ℤ (v3 +ℤ (v4 +ℤ pos 0)))
  unfolding total
  long-period = ap (λ (z : ℤ). v1 +ℤ (z +ℤ (v3 +ℤ (v4 +ℤ pos 0)))) (value-apart f arguments q c0 c1 (pos 0) (pos 0) (added 1 P2) none none)

  together : sum centre +ℤ ((v1 +ℤ ((v (second c0 (pos 0)) +ℤ v (second (pos 0) c1)) +ℤ (v3 +ℤ (v4 +ℤ pos 0)))) +ℤ (sum moon +ℤ (sum venus +ℤ sum planets)))
      ≡ sum centre +ℤ (sum long_period +ℤ (sum moon +ℤ sum venus)) +ℤ sum further
  unfolding total
  together = regrouped (sum centre) v1 (v (second c0 (pos 0))) (v (second (pos 0) c1)) v3 v4 (sum moon) (sum venus) (sum planets)

  pub full-is-short-and-further : sum full_terms ≡ sum short_terms +ℤ sum further
  full-is-short-and-further =
      fourfold centre full_long_period moon venus planets
      ∙ ap (λ (z : ℤ). sum centre +ℤ (z +ℤ (sum moon +ℤ (sum venus +ℤ sum planets)))) long-period
      ∙ together
      ∙ ap (λ (z : ℤ). z +ℤ sum further) (sym (threefold centre long_period moon venus))

-- ---- at an epoch
module _ (e : Epoch) (q : ℤ) where
  pub full-sum : total Sin (full_arguments_of e) q full_terms ≡ total Sin (arguments_of e) q short_terms +ℤ total Sin (full_arguments_of e) q further
  unfolding full_arguments_of arguments_of rows
  full-sum =
      full-is-short-and-further Sin (full_arguments_of e) q
      ∙ ap (λ (z : ℤ). z +ℤ total Sin (full_arguments_of e) q further) (total-front (arguments_of e) (arguments_by further_rows e) Sin q short_terms tt)

  pub full-dpsi : dpsi (full_arguments_of e) q ≡ dpsi (arguments_of e) q
  unfolding full_arguments_of arguments_of rows dpsi
  full-dpsi = table-sum-front (arguments_of e) (arguments_by further_rows e) q dpsi_terms tt

-- ---- the editions 1 and 2
is-short : is_short (pos 1) ≡ true
is-short = (decide_iff (ℤ_discrete (pos 1) (pos 1))).1 refl

pub full-is-not-short : pos 2 ≡ pos 1 → ⊥
full-is-not-short e = let h : nat_abs (pos 2) ≡ nat_abs (pos 1) = ap nat_abs e in omega arith

is-full : is_short (pos 2) ≡ false
is-full = not-decided (ℤ_discrete (pos 2) (pos 1)) full-is-not-short

-- an edition that is not the short one has the full one's terms and arguments
full-edition : (edition : ℤ) → is_short edition ≡ false → terms_of edition ≡ full_terms
full-edition edition h = rw h refl

full-arguments : (edition : ℤ) (e : Epoch) → is_short edition ≡ false → arguments_for edition e ≡ full_arguments_of e
full-arguments edition e h = rw h refl

module _ (aberration : ℤ) (e : Epoch) where
  pub short-longitudes : (apparent_longitude (pos 1) aberration e ≡ longitude_by short_terms aberration (arguments_of e) e.q)
      × (polynomial_longitude (pos 1) aberration e ≡ polynomial_by short_terms aberration (arguments_of e) e.q)
  unfolding apparent_longitude polynomial_longitude
  short-longitudes = rw is-short (refl, refl)

  pub full-longitudes : (apparent_longitude (pos 2) aberration e ≡ longitude_by full_terms aberration (full_arguments_of e) e.q)
      × (polynomial_longitude (pos 2) aberration e ≡ polynomial_by full_terms aberration (full_arguments_of e) e.q)
  unfolding apparent_longitude polynomial_longitude
  full-longitudes = (
    ap₂ (λ ts l. longitude_by ts aberration l e.q) (full-edition (pos 2) is-full) (full-arguments (pos 2) e is-full),
    ap₂ (λ ts l. polynomial_by ts aberration l e.q) (full-edition (pos 2) is-full) (full-arguments (pos 2) e is-full),
  )

-- ---- the first sum of an edition
module _ (edition : ℤ) (e : Epoch) (z : ℤ) where
  pub short-first-sum : edition ≡ pos 1 → z ≡ total Sin (arguments_of e) e.q short_terms → nearest_div z R ≡ first_sum edition e
  unfolding first_sum table_sum
  short-first-sum h i = rw ((decide_iff (ℤ_discrete edition (pos 1))).1 h) (ap (λ (z : ℤ). nearest_div z R) i)

  pub full-first-sum : (edition ≡ pos 1 → ⊥) → z ≡ total Sin (full_arguments_of e) e.q full_terms → nearest_div z R ≡ first_sum edition e
  unfolding first_sum table_sum
  full-first-sum h i =
      let n = not-decided (ℤ_discrete edition (pos 1)) h in
      ap (λ (z : ℤ). nearest_div z R) i
      ∙ sym (ap₂ (λ ts l. nearest_div (total Sin l e.q ts) R) (full-edition edition n) (full-arguments edition e n))

-- ---- its longitude, by the arguments that both share
pub full-mean : (e : Epoch) → mean_longitude (full_arguments_of e) ≡ mean_longitude (arguments_of e)
unfolding full_arguments_of arguments_of rows
full-mean e = refl

pub longitude-is : (edition k : ℤ) (e : Epoch)
    → reduced (mean_longitude (arguments_of e) +ℤ first_sum edition e +ℤ dpsi (arguments_of e) e.q -ℤ k)
    ≡ apparent_longitude edition k e
unfolding apparent_longitude longitude_by first_sum
longitude-is edition k e = by (is_short edition)
  where
    by : (b : Bool) → let l = cond b (arguments_of e) (full_arguments_of e) in let f = table_sum l e.q (cond b short_terms full_terms) in
        reduced (mean_longitude (arguments_of e) +ℤ f +ℤ dpsi (arguments_of e) e.q -ℤ k) ≡ reduced (mean_longitude l +ℤ f +ℤ dpsi l e.q -ℤ k)
    by true = refl
    by false = rw (full-mean e, full-dpsi e e.q) refl
