use Rattle.std.proofs.Common.{◌≡◌, drop}
use Rattle.replay_wire.specs.Replays.{last_moment}
use Rattle.replay_wire.proofs.places.moment_of.Given as goal

abbrev pub invariant-loop-entry : goal.invariant-loop-entry
invariant-loop-entry l = last_moment l.moment (drop l.entry-index l.trace) ≡ last_moment 0 l.trace
