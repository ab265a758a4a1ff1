-- The rows stand for the printed terms in whole units, which antt computes.
use mathlib.Core.Path.{◌≡◌, refl, ap, ◌∙◌}
use Prim.Native.Nat.{◌*◌, ◌≤◌, ◌^◌}
use native.Mathlib.Nat.{le_trans}
use lib.Dec.{lit≤}
use lib.IntN.{ℤ, nat_abs}
use mir.Facts.{to_z-of_z}
use Rattle.exact.specs.Division.{floor_div, nearest_div}
use Rattle.exact.proofs.Machine.{ok-fits}
use Rattle.secular.specs.Sizes.{most}
use Rattle.sine_table.specs.Table.{R}
use Rattle.sine.specs.Sine.{Sin}
use Rattle.arguments.specs.PrintedArguments.{argument_count}
use Rattle.series.specs.Sum.{total, weights}
use Rattle.series.specs.Rows.{kept, steady_term, steady_terms}
use Rattle.series.proofs.Sizes.{steady-ready}
use Rattle.sun.specs.Series.{periodic}
use Rattle.sun.proofs.periodic_sum.Goals as goal

pub steady_sum-requires : goal.steady_sum-requires
unfolding weights most kept steady_term steady_terms
steady_sum-requires c = steady-ready argument_count c.requires.reduced c.requires.all tt

pub returns : goal.returns
unfolding weights most kept steady_term steady_terms nearest_div floor_div
returns c =
    let is : (q : ℤ) → c.steady_sum.result ≡ total Sin c.args.arguments.now q periodic = λ q. c.steady_sum.ensures.0 q ∙ ap (total Sin c.args.arguments.now q) refl in
    let least : nat_abs c.steady_sum.result ≤ R * 2 ^ 27 = le_trans c.steady_sum.ensures.1 (lit≤ tt) in
    simp (to_z-of_z, ok-fits c.steady_sum.result c.steady_sum.type_inv) (is, least)
