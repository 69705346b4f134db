use Rattle.replay_wire.specs.Replays.{left_behind}
use Rattle.replay_wire.proofs.Hearings.{hearing_here, can_be_heard}
use Rattle.replay_wire.proofs.wire.ReplayWire.hear_at.Goals as goal

pub hear-result-requires-clause-hearing : goal.hear-result-requires-clause-hearing
hear-result-requires-clause-hearing g c =
    let s = c.self.invariant in
    hearing_here c.self.inside.trace.items g.K.Recorded.entries (left_behind g.K.Recorded.entries c.args.self.now.told.past) c.args.place c.index-entry.result.now s.whole c.requires.place c.requires.within c.index-entry.ensures

pub hear-result-requires-clause-heard : goal.hear-result-requires-clause-heard
hear-result-requires-clause-heard g c =
    let s = c.self.invariant in
    (c.self.inside.posts, can_be_heard c.self.inside.posts c.self.inside.trace.items g.K.Recorded.entries c.args.place c.index-entry.result.now s.whole c.requires.within c.index-entry.ensures s.heard)
