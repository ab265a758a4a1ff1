-- The angles of any table of rows are reduced.
use mathlib.Core.Path.{refl}
use mathlib.Core.List.{List, [], ◌∷◌, ◌++◌}
use Prim.Native.Nat.{zero, suc}
use native.Mathlib.Omega.{arith}
use lib.IntN.{ℤ}
use Rattle.exact.specs.Sizes.{AllReduced}
use Rattle.exact.proofs.Reduction.{reduced-lt}
use Rattle.epoch.specs.Epoch.{Epoch}
use Rattle.arguments.specs.Argument.{argument, arguments_by}
use Rattle.arguments.specs.PrintedArguments.{rows, further_rows, arguments_of, full_arguments_of}
use Rattle.arguments.specs.Sizes.{IsArguments, IsFullArguments}

pub all-reduced : (rows : List (List ℤ)) (e : Epoch) → AllReduced (arguments_by rows e)
unfolding argument
all-reduced [] e i = omega arith
all-reduced (r ∷ rows) e zero = reduced-lt _
all-reduced (r ∷ rows) e (suc i) = all-reduced rows e i

pub are-arguments : (e : Epoch) → IsArguments (arguments_of e)
unfolding arguments_of rows
are-arguments e = record { reduced = all-reduced rows e; all = refl }

pub are-full-arguments : (e : Epoch) → IsFullArguments (full_arguments_of e)
unfolding full_arguments_of arguments_of rows further_rows
are-full-arguments e = record { reduced = all-reduced (rows ++ further_rows) e; all = refl }
