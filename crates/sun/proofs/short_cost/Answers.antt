-- What the short edition drops, in units, is the law `short-cost-is`.
use mathlib.Core.Path.{◌≡◌, sym, ap, ◌∙◌}
use Prim.Native.Nat.{ℕ, ◌+◌, ◌≤◌, ◌^◌}
use native.Mathlib.Nat.{le_trans}
use native.Mathlib.Omega.{arith}
use lib.Dec.{lit≤}
use lib.IntN.{nat_abs}
use mir.Facts.{to_z-of_z}
use Rattle.exact.proofs.Machine.{ok-fits}
use Rattle.secular.specs.Sizes.{most}
use Rattle.sun.specs.ShortCost.{short_cost}
use Rattle.sun.proofs.ShortCost.{short-cost-is}
use Rattle.sun.proofs.short_cost.Goals.{After-magnitude}
use Rattle.sun.proofs.short_cost.Goals as goal

module _ (c : After-magnitude) where
  small : c.magnitude.result ≤ 2 ^ 16
  unfolding most
  small = let v = c.value in rw c.magnitude.ensures (simp (to_z-of_z, ok-fits v.result v.type_inv) (le_trans v.ensures.1 (lit≤ tt)))

pub overflow_add-result : goal.overflow_add-result
overflow_add-result c = record { fits = omega (arith, small (goal.at.overflow_add-result c).After-magnitude) }

pub returns : goal.returns
returns c =
    let d = (goal.at.returns c).After-magnitude in
    let v = d.value in
    let is = simp (to_z-of_z, d.ranges.q) at v.ensures.0 in
    let m = simp (to_z-of_z, ok-fits v.result v.type_inv) at d.magnitude.ensures in
    let cost : d.magnitude.result + 227_570 ≡ short_cost d.args.q = ap (λ (n : ℕ). n + 227_570) (m ∙ ap nat_abs is) ∙ sym (short-cost-is d.args.q) in
    omega (arith, cost)
