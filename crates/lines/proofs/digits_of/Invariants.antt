-- The number so far, with the digits to come, makes what all make, and is below 10^i.
use Rattle.std.proofs.Common.{◌≡◌, ◌^◌, ◌<◌, drop}
use Rattle.lines.specs.Numerals.{digits_from}
use Rattle.lines.proofs.digits_of.Given as goal

abbrev pub invariant-loop-c : goal.invariant-loop-c
invariant-loop-c l = record {
  below : l.n < 10 ^ l.c-index;
  rest : digits_from l.n (drop l.c-index l.s) ≡ digits_from 0 l.s;
}
