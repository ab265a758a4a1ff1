-- The angles of the one table, and behind them those of the other, whose stored rows are the printed ones in whole units, which antt computes.
use mathlib.Core.Path.{◌≡◌, refl, ap₂, subst⁻¹, ◌∙◌}
use mathlib.Core.List.{List, [], ◌∷◌, ◌++◌}
use lib.IntN.{ℤ, pos}
use borrow.Rule.Slice.PartMut.{put_mid}
use Rattle.exact.specs.Division.{floor_div, nearest_div}
use Rattle.epoch.specs.Epoch.{Epoch}
use Rattle.arguments.specs.Argument.{arguments_by}
use Rattle.arguments.specs.PrintedArguments.{rows, further_rows, arguments_of, full_arguments_of}
use Rattle.arguments.specs.Sizes.{IsFullArguments}
use Rattle.arguments.proofs.AllReduced.{are-full-arguments}
use Rattle.arguments.proofs.full_arguments_of.Goals as goal

-- four angles stored behind eleven
abbrev joined : List ℤ → List ℤ → List ℤ
joined a b = put_mid 11 4 (a ++ (pos 0 ∷ pos 0 ∷ pos 0 ∷ pos 0 ∷ [])) b

joined_is : (e : Epoch) → joined (arguments_of e) (arguments_by further_rows e) ≡ full_arguments_of e
unfolding arguments_of full_arguments_of rows further_rows
joined_is e = refl

pub returns : goal.returns
unfolding further_rows nearest_div floor_div
returns c =
    let is = ap₂ joined (c.copy_from_slice.ensures.after ∙ c.requires) c.fill.ensures ∙ joined_is c.args.e in
    (is, subst⁻¹ IsFullArguments is (are-full-arguments c.args.e))
