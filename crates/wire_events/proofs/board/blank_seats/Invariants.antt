use Rattle.std.proofs.Common.{◌≡◌, replicate}
use Rattle.wire_events.specs.Seats.{blank}
use Rattle.wire_events.proofs.board.blank_seats.Given as goal

abbrev pub invariant-loop : goal.invariant-loop
invariant-loop l = l.seats.items ≡ replicate l.counter blank
