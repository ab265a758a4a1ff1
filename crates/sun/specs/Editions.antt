-- Document 02, request 7 (RULES.md, "The Sun", editions): the editions of the Sun's series by their numbers, 1 short and 2 full.
use Rattle.std.specs.Prelude.{Bool, cond, List, ℤ, pos}
use Rattle.std.proofs.Math.Bool.{decide}
use Rattle.std.proofs.Math.IntN.{ℤ_discrete}
use Rattle.exact.specs.Range.{between}
use Rattle.epoch.specs.Epoch.{Epoch}
use Rattle.arguments.specs.PrintedArguments.{arguments_of, full_arguments_of}
use Rattle.series.specs.Term.{Term}
use Rattle.sun.specs.Series.{short_terms, full_terms}

abbrev pub is_edition : ℤ → Bool
is_edition edition = between (pos 1) edition (pos 2)

abbrev pub is_short : ℤ → Bool
is_short edition = decide (ℤ_discrete edition (pos 1))

-- the terms of the first sum, and the arguments of an epoch that they name
abbrev pub terms_of : ℤ → List Term
terms_of edition = cond (is_short edition) short_terms full_terms

abbrev pub arguments_for : ℤ → Epoch → List ℤ
arguments_for edition e = cond (is_short edition) (arguments_of e) (full_arguments_of e)
