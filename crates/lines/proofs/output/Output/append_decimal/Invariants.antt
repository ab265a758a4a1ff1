-- The invariant: what is left of the number and the digits that are stored make the number's.
use mathlib.Core.Path.{◌≡◌}
use mathlib.Core.List.{◌++◌}
use Prim.Native.Nat.{◌≤◌}
use lib.ListN.{length, drop}
use Rattle.lines.specs.Appending.{decimal_text}
use Rattle.lines.proofs.output.Output.append_decimal.Given as goal

abbrev pub invariant-loop-m : goal.invariant-loop-m
invariant-loop-m l =
    (length (decimal_text l.m) ≤ l.from) × (l.from ≤ 20) × (length l.text ≡ 20) × (decimal_text l.n ≡ decimal_text l.m ++ drop l.from l.text)

abbrev pub decreases-loop-m : goal.decreases-loop-m
decreases-loop-m l = l.m
