-- The sum of the centre terms is rounded once.
use mathlib.Core.Path.{ap, ◌∙◌}
use Prim.Native.Nat.{◌^◌}
use native.Mathlib.Omega.{arith}
use lib.IntN.{ℤ}
use mir.Facts.{to_z-of_z}
use Rattle.exact.specs.Division.{nearest_div}
use Rattle.exact.proofs.Machine.{ok-fits}
use Rattle.sine_table.specs.Table.{R}
use Rattle.epoch.specs.Epoch.{Epoch}
use Rattle.epoch.proofs.Sizes.{q-size, q-fits}
use Rattle.series.specs.Sum.{table_sum}
use Rattle.sun.specs.Longitude.{equation_of_centre}
use Rattle.sun.proofs.equation_of_centre.Goals as goal

pub centre_sum-requires : goal.centre_sum-requires
centre_sum-requires c = simp (to_z-of_z, q-fits c.e.invariant) (c.requires, q-size c.e.invariant)

pub rounded-requires : goal.rounded-requires
rounded-requires c = simp (to_z-of_z, ok-fits c.centre_sum.result c.centre_sum.type_inv) (omega (arith, c.centre_sum.ensures.1))

pub returns : goal.returns
unfolding equation_of_centre table_sum
returns c =
    let e = simp (to_z-of_z, ok-fits c.centre_sum.result c.centre_sum.type_inv) at c.rounded.ensures in
    let is = simp (to_z-of_z, q-fits c.e.invariant) at c.centre_sum.ensures.0 in
    simp (to_z-of_z, ok-fits c.rounded.result c.rounded.type_inv)
    (e.0 ∙ ap (λ (z : ℤ). nearest_div z R) is ∙ ap (λ (e : Epoch). equation_of_centre c.args.arguments.now e.q) c.e.view_is, e.1 (2 ^ 27) c.centre_sum.ensures.1)
