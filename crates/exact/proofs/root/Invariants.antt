-- The loop's invariant: the guess is at the root or above, and q is x divided by it. The guess falls until q is no
-- longer below it.
use mathlib.Core.Path.{◌≡◌}
use Prim.Native.Nat.{◌+◌, ◌*◌, ◌/◌, ◌^◌, ◌<◌}
use Rattle.exact.proofs.root.Given as goal

abbrev pub invariant-loop-q : goal.invariant-loop-q
invariant-loop-q l = (l.q ≡ l.x / l.h) × (l.x < (l.h + 1) * (l.h + 1)) × (l.h < 2 ^ 34)

abbrev pub decreases-loop-q : goal.decreases-loop-q
decreases-loop-q l = l.h
