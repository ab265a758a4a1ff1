-- The rows stand for the printed terms in whole units, which antt computes.
use mathlib.Core.Path.{◌≡◌, refl, ap, ◌∙◌}
use Prim.Native.Nat.{◌*◌, ◌≤◌, ◌^◌}
use native.Mathlib.Nat.{le_trans}
use lib.Dec.{lit≤}
use lib.IntN.{nat_abs}
use mir.Facts.{to_z-of_z}
use Rattle.exact.specs.Division.{floor_div, nearest_div}
use Rattle.exact.proofs.Machine.{ok-fits}
use Rattle.secular.specs.Sizes.{most}
use Rattle.sine_table.specs.Table.{R}
use Rattle.sine.specs.Sine.{Sin}
use Rattle.arguments.specs.PrintedArguments.{argument_count}
use Rattle.series.specs.Sum.{total, weights}
use Rattle.series.specs.Rows.{kept, steady_term, steady_terms, varying_term}
use Rattle.series.proofs.Sizes.{steady-ready, varying-ready}
use Rattle.sun.specs.Series.{centre}
use Rattle.sun.proofs.centre_sum.Goals as goal

pub sum-requires : goal.sum-requires
unfolding weights most kept steady_term steady_terms varying_term
sum-requires c =
    let a = c.requires.0 in
    (varying-ready argument_count a.reduced a.all (simp (to_z-of_z, c.ranges.q) c.requires.1) tt, steady-ready argument_count a.reduced a.all tt)

pub returns : goal.returns
unfolding weights most kept steady_term steady_terms varying_term nearest_div floor_div
returns c =
    let is : c.sum.result ≡ total Sin c.args.arguments.now c.args.q centre = (simp (to_z-of_z, c.ranges.q) at c.sum.ensures.0) ∙ ap (total Sin c.args.arguments.now c.args.q) refl in
    let least : nat_abs c.sum.result ≤ R * 2 ^ 27 = le_trans c.sum.ensures.1 (lit≤ tt) in
    simp (to_z-of_z, ok-fits c.sum.result c.sum.type_inv) (is, least)
