-- The invariant: an angle of a run is below a turn.
use Prim.Native.Nat.{◌<◌}
use Rattle.exact.specs.Reduction.{turn}
use Rattle.measures.proofs.measured.Given as goal

abbrev pub invariant-loop-i : goal.invariant-loop-i
invariant-loop-i l = l.a < turn
