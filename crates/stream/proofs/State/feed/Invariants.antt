-- What is written and what is yet to be read make what the whole chunk makes.
use Rattle.std.proofs.Common.{◌≡◌, ℕ, ◌+◌, ◌*◌, ◌≤◌, List, length}
use Rattle.lines.specs.Appending.{capacity, Appends}
use Rattle.stream.specs.Sizes.{room}
use Rattle.stream.specs.Feeding.{behind, progress_from}
use Rattle.stream.proofs.State.feed.Given as goal

abbrev pub invariant-loop-newline : goal.invariant-loop-newline
invariant-loop-newline l = record {
  room : l.out.len + length l.rest * room ≤ capacity l.out;
  made : (o : List ℕ) × Appends l.initial.out o l.out × (behind o (progress_from l.protocol l.self l.rest) ≡ progress_from l.protocol l.initial.self l.chunk);
}

abbrev pub decreases-loop-newline : goal.decreases-loop-newline
decreases-loop-newline l = length l.rest
