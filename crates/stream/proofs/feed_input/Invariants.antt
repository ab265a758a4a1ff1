-- The state is one that chunks lead to.
use Rattle.std.proofs.Common.{◌≡◌, length}
use Rattle.lines.specs.Appending.{capacity}
use Rattle.stream.specs.Sizes.{chunk_length}
use Rattle.stream.specs.Feeding.{Reached}
use Rattle.stream.proofs.feed_input.Given as goal

abbrev pub invariant-loop-round : goal.invariant-loop-round
invariant-loop-round g l = record {
  room : capacity l.out ≡ capacity l.initial.out;
  input : length l.input ≡ chunk_length;
  reached : Reached l.protocol l.state;
}
