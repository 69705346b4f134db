use Rattle.wire_events.specs.Seats.{NoKindIn}
use Rattle.wire_events.proofs.seat.Seat.kind_in.Given as goal

abbrev pub invariant-loop-k : goal.invariant-loop-k
invariant-loop-k l = NoKindIn l.self l.now l.from l.k
