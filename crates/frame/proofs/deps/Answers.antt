-- The rows stand for the printed terms in whole units, which antt computes.
use mathlib.Core.Path.{◌≡◌, ap, ◌∙◌}
use Prim.Native.Nat.{◌≤◌, ◌^◌}
use native.Mathlib.Nat.{le_trans}
use lib.Dec.{lit≤}
use lib.IntN.{nat_abs}
use mir.Facts.{to_z-of_z}
use Rattle.exact.specs.Division.{floor_div, nearest_div}
use Rattle.exact.proofs.Machine.{ok-fits}
use Rattle.secular.specs.Sizes.{most}
use Rattle.epoch.specs.Epoch.{Epoch}
use Rattle.epoch.proofs.Sizes.{q-size, q-fits}
use Rattle.arguments.specs.PrintedArguments.{argument_count}
use Rattle.series.specs.Sum.{weights}
use Rattle.series.specs.Rows.{kept, steady_term, steady_terms, varying_term}
use Rattle.series.proofs.Sizes.{sum-ready}
use Rattle.frame.specs.Nutation.{deps}
use Rattle.frame.proofs.deps.Goals.{After-rounded_sum}
use Rattle.frame.proofs.deps.Goals as goal

module _ (c : After-rounded_sum) where
  sum_is : (c.rounded_sum.result ≡ deps c.args.arguments.now c.args.e.q) × (nat_abs c.rounded_sum.result ≤ 2 ^ 20)
  unfolding deps weights most kept steady_term steady_terms varying_term nearest_div floor_div
  sum_is = (
    (simp (to_z-of_z, q-fits c.e.invariant) at c.rounded_sum.ensures.0) ∙ ap (λ (e : Epoch). deps c.args.arguments.now e.q) c.e.view_is,
    le_trans c.rounded_sum.ensures.1 (lit≤ tt),
  )

pub rounded_sum-requires : goal.rounded_sum-requires
unfolding weights most kept steady_term steady_terms varying_term
rounded_sum-requires c =
    simp (to_z-of_z, q-fits c.e.invariant) (sum-ready argument_count c.requires.reduced c.requires.all (q-size c.e.invariant) tt tt tt)

pub returns : goal.returns
returns c = simp (to_z-of_z, ok-fits c.rounded_sum.result c.rounded_sum.type_inv) (sum_is c)
