use Rattle.std.proofs.Common.{◌≡◌, drop}
use Rattle.replay_wire.specs.Replays.{from_hearing}
use Rattle.replay_wire.proofs.places.hearing_place.Given as goal

abbrev pub invariant-loop-place : goal.invariant-loop-place
invariant-loop-place l = from_hearing (drop l.place l.trace) ≡ from_hearing (drop l.at l.trace)
