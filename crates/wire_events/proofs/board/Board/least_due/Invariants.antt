use Rattle.wire_events.specs.Boards.{LeastDue}
use Rattle.wire_events.proofs.board.Board.least_due.Given as goal

abbrev pub invariant-loop-place : goal.invariant-loop-place
invariant-loop-place l = LeastDue l.self l.until l.place l.least
