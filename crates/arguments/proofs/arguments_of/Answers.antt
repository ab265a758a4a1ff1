-- The stored rows are the printed ones in whole units, which antt computes.
use mathlib.Core.Path.{subst⁻¹}
use Rattle.exact.specs.Division.{floor_div, nearest_div}
use Rattle.arguments.specs.PrintedArguments.{rows, arguments_of}
use Rattle.arguments.specs.Sizes.{IsArguments}
use Rattle.arguments.proofs.AllReduced.{are-arguments}
use Rattle.arguments.proofs.arguments_of.Goals as goal

pub returns : goal.returns
unfolding rows arguments_of nearest_div floor_div
returns c = let e = c.fill.ensures in (e, subst⁻¹ IsArguments e (are-arguments c.args.e))
