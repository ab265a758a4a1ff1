use mathlib.Core.Path.{◌≡◌, ap₂, subst, subst⁻¹, ◌∙◌}
use mathlib.Core.List.{List}
use Prim.Native.Nat.{◌+◌, ◌*◌, ◌≤◌, ◌^◌}
use native.Mathlib.Omega.{arith}
use lib.IntN.{ℤ, nat_abs, ◌+ℤ◌}
use mir.Facts.{to_z-of_z}
use mir.Syntax.{w64}
use mir.Val.{SFits}
use Rattle.exact.proofs.Machine.{ok-fits}
use Rattle.sine_table.specs.Table.{R}
use Rattle.sine.specs.Sine.{Sin}
use Rattle.epoch.specs.Epoch.{Epoch}
use Rattle.epoch.specs.Sizes.{InSpan}
use Rattle.epoch.proofs.Sizes.{q-size, q-fits}
use Rattle.arguments.specs.PrintedArguments.{arguments_of}
use Rattle.arguments.specs.Sizes.{IsArguments}
use Rattle.arguments.proofs.AllReduced.{are-arguments}
use Rattle.series.specs.Sum.{total}
use Rattle.series.proofs.Sums.{total-append}
use Rattle.sun.specs.Series.{centre, periodic, short_terms}
use Rattle.sun.proofs.ExactSums.{two-fit}
use Rattle.sun.proofs.short_sum.Goals.{After-periodic_sum}
use Rattle.sun.proofs.short_sum.Goals as goal

are : (l : List ℤ) (e : Epoch) → l ≡ arguments_of e → IsArguments l
are l e is = subst⁻¹ IsArguments is (are-arguments e)

pub centre_sum-requires : goal.centre_sum-requires
centre_sum-requires c = simp (to_z-of_z, q-fits c.e.invariant) (are _ _ c.requires, q-size c.e.invariant)

pub periodic_sum-requires : goal.periodic_sum-requires
periodic_sum-requires c = are _ _ c.requires

module _ (c : After-periodic_sum) where
  abbrev q : ℤ
  q = c.e.inside.q

  abbrev a : ℤ
  a = c.centre_sum.result

  abbrev b : ℤ
  b = c.periodic_sum.result

  fit : SFits w64 a × SFits w64 b
  fit = (ok-fits a c.centre_sum.type_inv, ok-fits b c.periodic_sum.type_inv)

  both : SFits w64 (a +ℤ b) × (nat_abs (a +ℤ b) ≤ R * (2 ^ 27 + 2 ^ 27))
  both = two-fit a b (2 ^ 27) (2 ^ 27) c.centre_sum.ensures.1 c.periodic_sum.ensures.1 (omega arith) (omega arith)

  sum_is : a +ℤ b ≡ total Sin (arguments_of c.args.e) c.args.e.q short_terms
  sum_is =
      let is = simp (to_z-of_z, q-fits c.e.invariant) at c.centre_sum.ensures.0 in
      ap₂ ◌+ℤ◌ is (c.periodic_sum.ensures.0 q) ∙ total-append Sin c.args.arguments.now q centre periodic
      ∙ ap₂ (λ (l : List ℤ) (e : Epoch). total Sin l e.q short_terms) c.requires c.e.view_is

pub overflow_add-result : goal.overflow_add-result
overflow_add-result c = let d = (goal.at.overflow_add-result c).After-periodic_sum in simp (to_z-of_z, (fit d).0, (fit d).1) (both d).0

pub returns : goal.returns
returns c = let d = (goal.at.returns c).After-periodic_sum in simp (to_z-of_z, (fit d).0, (fit d).1, (both d).0) (sum_is d, omega (arith, (both d).1), subst InSpan d.e.view_is d.e.invariant)
