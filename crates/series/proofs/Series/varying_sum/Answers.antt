use mathlib.Core.Path.{ap, ◌∙◌}
use mathlib.Core.List.{List}
use Prim.Native.Nat.{ℕ, suc, ◌≤◌, ◌<◌}
use native.Mathlib.Numerals.{add-one}
use native.Mathlib.Omega.{arith}
use lib.IntN.{ℤ, nat_abs, ◌+ℤ◌}
use lib.ListN.{length}
use mir.Facts.{to_z-of_z}
use mir.Syntax.{w64}
use mir.Val.{SFits, of_z, to_z}
use Rattle.exact.proofs.Machine.{ok-fits}
use Rattle.secular.specs.Sizes.{most_millionths}
use Rattle.sine.specs.Sine.{Sin}
use Rattle.series.specs.Sum.{total}
use Rattle.series.specs.Rows.{varying_term, varying_terms}
use Rattle.series.proofs.Sums.{sum-le}
use Rattle.series.proofs.Loops.{RowsLeft, row_fits, row_next, rows-sum}
use Rattle.series.proofs.Series.varying_sum.Goals.{After-varying_product-sum}
use Rattle.series.proofs.Series.varying_sum.Goals as goal

-- q as the machine holds it
q-le : (q : ℤ) → SFits w64 q → nat_abs q ≤ most_millionths → nat_abs (to_z w64 (of_z w64 q)) ≤ most_millionths
q-le q f h = rw (to_z-of_z f) h

-- ---- a round
module _ (c : After-varying_product-sum) where
  abbrev arguments : List ℤ
  arguments = c.args.arguments.now

  abbrev rows : List (List ℤ)
  rows = c.args.self.now.varying.now

  abbrev q : ℤ
  q = to_z w64 (of_z w64 c.args.q)

  abbrev i : ℕ
  i = c.loop-row.row-index

  abbrev sum : ℤ
  sum = to_z w64 c.loop-row.sum-bits

  abbrev p : ℤ
  p = c.varying_product-sum.result

  inside : i < length rows
  inside = omega arith

  round-fits : SFits w64 (sum +ℤ p)
  round-fits =
      row_fits arguments q varying_term rows i sum p inside c.loop-row.invariant c.varying_product-sum.ensures
      (q-le c.args.q c.ranges.q c.requires.moment) c.requires.light

  next : RowsLeft arguments q varying_term rows (suc i) (sum +ℤ p)
  next = row_next arguments q varying_term rows i sum p inside c.loop-row.invariant c.varying_product-sum.ensures

  p-fits : SFits w64 p
  p-fits = ok-fits p c.varying_product-sum.type_inv

pub overflow_add-sum : goal.overflow_add-sum
overflow_add-sum c = simp (to_z-of_z, p-fits c) (round-fits c)

pub loop-row-preserved : goal.loop-row-preserved
loop-row-preserved c = let e = next c in rw (to_z-of_z (p-fits c), to_z-of_z (round-fits c), add-one) e

pub returns : goal.returns
returns c =
    let q = to_z w64 (of_z w64 c.args.q) in
    let e = rows-sum c.args.arguments.now q varying_term c.args.self.now.varying.now c.loop-row.row-index (to_z w64 c.loop-row.sum-bits) (omega arith) c.loop-row.invariant in (
      e ∙ ap (λ (z : ℤ). total Sin c.args.arguments.now z (varying_terms c.args.self.now.varying.now)) (to_z-of_z c.ranges.q),
      rw e (sum-le c.args.arguments.now q (q-le c.args.q c.ranges.q c.requires.moment) (varying_terms c.args.self.now.varying.now)),
    )
