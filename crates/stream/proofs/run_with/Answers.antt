use Rattle.stream.proofs.Rounds.{last-round}
use Rattle.stream.proofs.run_with.Goals as goal

pub returns : goal.returns
returns g c =
    let last = c.feed_input-state.result in
    last-round c.args.protocol last _ c.feed_input-state.ensures.reached (rw c.clear.ensures.none at c.finish.ensures.holds)
