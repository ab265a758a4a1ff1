-- No quotient is larger than what the sum is at most R times.
use mathlib.Core.Path.{subst⁻¹}
use Prim.Native.Nat.{◌≤◌}
use lib.Dec.{lit<}
use lib.IntN.{ℤ, nat_abs}
use mir.Facts.{to_z-of_z}
use Rattle.exact.proofs.Division.{nearest-abs}
use Rattle.exact.proofs.Machine.{ok-fits}
use Rattle.sine_table.specs.Table.{R}
use Rattle.series.proofs.rounded.Goals as goal

pub returns : goal.returns
returns c =
    let s = c.before in
    let e = simp (to_z-of_z, s.ranges.sum) at c.nearest_div.ensures in
    simp (to_z-of_z, ok-fits c.nearest_div.result c.nearest_div.type_inv)
    (e, λ k h. subst⁻¹ (λ (z : ℤ). nat_abs z ≤ k) e (nearest-abs s.args.sum R k (lit< tt) h))
