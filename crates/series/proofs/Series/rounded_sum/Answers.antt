-- The sum is light enough to be rounded.
use mathlib.Core.Path.{◌≡◌, ap, ◌∙◌}
use mathlib.Core.List.{List}
use lib.IntN.{ℤ}
use mir.Facts.{to_z-of_z}
use mir.Syntax.{w64}
use mir.Val.{SFits}
use Rattle.exact.specs.Division.{nearest_div}
use Rattle.exact.proofs.Machine.{ok-fits}
use Rattle.sine_table.specs.Table.{R}
use Rattle.sine.specs.Sine.{Sin}
use Rattle.series.specs.Term.{Term}
use Rattle.series.specs.Sum.{total, table_sum, weights}
use Rattle.series.specs.Rows as Rows
use Rattle.series.proofs.Series.rounded_sum.Goals.{After-sum}
use Rattle.series.proofs.Series.rounded_sum.Goals as goal

module _ (c : After-sum) where
  abbrev terms : List Term
  terms = Rows.terms c.args.self.now

  sum_is : c.sum.result ≡ total Sin c.args.arguments.now c.args.q terms
  sum_is = simp (to_z-of_z, c.ranges.q) at c.sum.ensures.0

  sum_fits : SFits w64 c.sum.result
  sum_fits = ok-fits c.sum.result c.sum.type_inv

pub returns : goal.returns
unfolding table_sum
returns c =
    let d = c.before in
    let e = simp (to_z-of_z, sum_fits d) at c.rounded.ensures in
    simp (to_z-of_z, ok-fits c.rounded.result c.rounded.type_inv)
    (e.0 ∙ ap (λ (z : ℤ). nearest_div z R) (sum_is d), e.1 (weights (terms d)) d.sum.ensures.1)
