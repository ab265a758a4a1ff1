use Rattle.std.proofs.Common.{refl, ◌∙◌}
use Rattle.stream.proofs.Rounds.{first_round, one-round}
use Rattle.stream.proofs.feed_input.Goals as goal

pub loop-round-init : goal.loop-round-init
loop-round-init g c = record {
  room = refl;
  input = refl;
  reached = first_round c.args.protocol c.start-state.result c.start-state.ensures.0 c.start-state.ensures.1;
}

pub loop-round-preserved : goal.loop-round-preserved
loop-round-preserved g c =
    let i = c.loop-round.invariant in
    let r = c.feed_some-came in
    record {
      room = r.ensures.room_after ∙ i.room;
      input = r.auto.input ∙ i.input;
      reached = one-round c.args.protocol c.loop-round.state _ r.new.state _ i.reached r.ensures.feeds;
    }

pub returns-then-came-eq0-clause-reached : goal.returns-then-came-eq0-clause-reached
returns-then-came-eq0-clause-reached g c =
    let r = c.feed_some-came in
    one-round c.args.protocol c.loop-round.state _ r.new.state _ c.loop-round.invariant.reached r.ensures.feeds
