-- The rows stand for the printed terms in whole units, which antt computes.
use mathlib.Core.Path.{◌≡◌, refl, ap, ap₂, ◌∙◌}
use mathlib.Core.List.{List}
use Prim.Native.Nat.{◌*◌, ◌≤◌, ◌^◌}
use native.Mathlib.Nat.{le_trans}
use lib.Dec.{lit≤}
use lib.IntN.{ℤ, nat_abs}
use mir.Facts.{to_z-of_z}
use Rattle.exact.specs.Division.{floor_div, nearest_div}
use Rattle.exact.proofs.Machine.{ok-fits}
use Rattle.secular.specs.Sizes.{most}
use Rattle.sine_table.specs.Table.{R}
use Rattle.sine.specs.Sine.{Sin}
use Rattle.epoch.specs.Epoch.{Epoch}
use Rattle.epoch.proofs.Sizes.{q-size, q-fits}
use Rattle.arguments.specs.PrintedArguments.{full_count}
use Rattle.series.specs.Sum.{total, weights}
use Rattle.series.specs.Rows.{kept, steady_term, steady_terms, varying_term}
use Rattle.series.proofs.Sizes.{steady-ready, varying-ready}
use Rattle.sun.specs.Series.{further}
use Rattle.sun.proofs.further_sum.Goals.{After-sum}
use Rattle.sun.proofs.further_sum.Goals as goal

pub sum-requires : goal.sum-requires
unfolding weights most kept steady_term steady_terms varying_term
sum-requires c =
    let r = c.full_arguments_of-all.ensures.1 in
    (varying-ready full_count r.reduced r.all (simp (to_z-of_z, q-fits c.e.invariant) (q-size c.e.invariant)) tt, steady-ready full_count r.reduced r.all tt)

module _ (c : After-sum) where
  sum_is : c.sum.result ≡ total Sin c.full_arguments_of-all.result c.e.inside.q further
  unfolding kept steady_term steady_terms varying_term nearest_div floor_div
  sum_is = let e = simp (to_z-of_z, q-fits c.e.invariant) at c.sum.ensures.0 in e ∙ ap (total Sin c.full_arguments_of-all.result c.e.inside.q) refl

  sum-le : nat_abs c.sum.result ≤ R * 2 ^ 27
  unfolding weights most kept steady_term steady_terms varying_term
  sum-le = le_trans c.sum.ensures.1 (lit≤ tt)

pub returns : goal.returns
returns c =
    let d = (goal.at.returns c).After-sum in
    simp (to_z-of_z, ok-fits c.sum.result c.sum.type_inv)
    (sum_is d ∙ ap₂ (λ (l : List ℤ) (e : Epoch). total Sin l e.q further) c.full_arguments_of-all.ensures.0 d.e.view_is, sum-le d)
