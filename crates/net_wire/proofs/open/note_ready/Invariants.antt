use Rattle.std.proofs.Common.{◌≡◌, length}
use Rattle.net_wire.proofs.open.note_ready.Given as goal

abbrev pub invariant-loop-event : goal.invariant-loop-event
invariant-loop-event l = length l.board.seats ≡ length l.initial.board.seats
