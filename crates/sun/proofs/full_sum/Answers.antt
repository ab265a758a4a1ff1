-- The terms that both editions share were summed before; what the full one adds is added.
use mathlib.Core.Path.{◌≡◌, sym, ap₂, ◌∙◌}
use Prim.Native.Nat.{◌+◌, ◌*◌, ◌≤◌, ◌^◌}
use native.Mathlib.Omega.{arith}
use lib.IntN.{ℤ, nat_abs, ◌+ℤ◌}
use mir.Facts.{to_z-of_z}
use mir.Syntax.{w64}
use mir.Val.{SFits}
use Rattle.exact.proofs.Machine.{ok-fits}
use Rattle.sine_table.specs.Table.{R}
use Rattle.sine.specs.Sine.{Sin}
use Rattle.arguments.specs.PrintedArguments.{full_arguments_of}
use Rattle.series.specs.Sum.{total}
use Rattle.sun.specs.Series.{full_terms}
use Rattle.sun.proofs.Editions.{full-sum}
use Rattle.sun.proofs.ExactSums.{two-fit}
use Rattle.sun.proofs.full_sum.Goals.{After-further_sum}
use Rattle.sun.proofs.full_sum.Goals as goal

module _ (c : After-further_sum) where
  abbrev short : ℤ
  short = c.args.short

  abbrev further : ℤ
  further = c.further_sum.result

  further-fits : SFits w64 further
  further-fits = ok-fits further c.further_sum.type_inv

  both : SFits w64 (short +ℤ further) × (nat_abs (short +ℤ further) ≤ R * (2 ^ 28 + 2 ^ 27))
  both = two-fit short further (2 ^ 28) (2 ^ 27) c.requires.1.1 c.further_sum.ensures.1 (omega arith) (omega arith)

  sum_is : short +ℤ further ≡ total Sin (full_arguments_of c.args.e) c.args.e.q full_terms
  sum_is = ap₂ ◌+ℤ◌ c.requires.1.0 c.further_sum.ensures.0 ∙ sym (full-sum c.args.e c.args.e.q)

pub overflow_add-result : goal.overflow_add-result
overflow_add-result c = let d = (goal.at.overflow_add-result c).After-further_sum in simp (to_z-of_z, c.ranges.short, further-fits d) (both d).0

pub returns : goal.returns
returns c = let d = (goal.at.returns c).After-further_sum in simp (to_z-of_z, c.ranges.short, further-fits d, (both d).0) (sum_is d, omega (arith, (both d).1))
