use mathlib.Core.Path.{◌≡◌, refl, ◌∙◌}
use mathlib.Core.List.{List, []}
use Prim.Native.Nat.{ℕ, suc, ◌<◌}
use native.Mathlib.Numerals.{add-one}
use native.Mathlib.Omega.{arith}
use lib.IntN.{ℤ, pos, ◌+ℤ◌}
use lib.ListN.{length, get_or}
use mir.Facts.{to_z-of_z}
use mir.Syntax.{w64}
use mir.Val.{SFits, to_z}
use Rattle.exact.specs.Reduction.{turn}
use Rattle.exact.specs.Sizes.{AllReduced}
use Rattle.exact.proofs.Machine.{ok-fits, fits_lt}
use Rattle.sine.specs.Sine.{Sin}
use Rattle.series.specs.Term.{Term, value}
use Rattle.series.specs.Rows.{index, steady_term}
use Rattle.series.specs.declared.Group.{Group}
use Rattle.series.proofs.Rows.{steady-value}
use Rattle.series.proofs.Loops.{RowsLeft, row_fits, row_next, rows-sum}
use Rattle.series.proofs.Group.sum.Goals.{After-steady_product-sum}
use Rattle.series.proofs.Group.sum.Goals as goal

argument-fits : (arguments : List ℤ) → AllReduced arguments → (i : ℕ) → SFits w64 (get_or arguments i (pos 0))
argument-fits arguments h i = fits_lt turn (get_or arguments i (pos 0)) (h i) refl

-- the term of a row
abbrev term : Group → List ℤ → Term
term g = steady_term (index g 0) (index g 1) (index g 2)

-- ---- a round
module _ (c : After-steady_product-sum) where
  abbrev arguments : List ℤ
  arguments = c.args.arguments.now

  abbrev g : Group
  g = c.args.self.now

  abbrev rows : List (List ℤ)
  rows = g.rows.now

  abbrev p : ℤ
  p = c.steady_product-sum.result

  abbrev n : ℕ
  n = c.loop-row.row-index

  abbrev sum : ℤ
  sum = to_z w64 c.loop-row.sum-bits

  inside : n < length rows
  inside = omega arith

  product_is : (q : ℤ) → p ≡ value Sin arguments q (term g (get_or rows n []))
  product_is q =
      let f = argument-fits arguments c.requires.angles in
      simp (to_z-of_z, f (index g 0), f (index g 1), f (index g 2)) at c.steady_product-sum.ensures
      ∙ steady-value arguments Sin q (index g 0) (index g 1) (index g 2) (get_or rows n [])

  round-fits : SFits w64 (sum +ℤ p)
  round-fits = row_fits arguments (pos 0) (term g) rows n sum p inside (c.loop-row.invariant (pos 0)) (product_is (pos 0)) (omega arith) c.requires.light

  next : (q : ℤ) → RowsLeft arguments q (term g) rows (suc n) (sum +ℤ p)
  next q = row_next arguments q (term g) rows n sum p inside (c.loop-row.invariant q) (product_is q)

  p-fits : SFits w64 p
  p-fits = ok-fits p c.steady_product-sum.type_inv

pub overflow_add-sum : goal.overflow_add-sum
overflow_add-sum c = simp (to_z-of_z, p-fits c) (round-fits c)

pub loop-row-preserved : goal.loop-row-preserved
loop-row-preserved c q = simp (to_z-of_z, p-fits c, round-fits c, add-one) (next c q)

pub returns : goal.returns
returns c q =
    let g = c.args.self.now in
    rows-sum c.args.arguments.now q (term g) g.rows.now c.loop-row.row-index (to_z w64 c.loop-row.sum-bits) (omega arith) (c.loop-row.invariant q)
