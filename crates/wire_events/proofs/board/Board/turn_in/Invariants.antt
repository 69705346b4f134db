use Rattle.wire_events.specs.Boards.{NoneIn}
use Rattle.wire_events.proofs.board.Board.turn_in.Given as goal

abbrev pub invariant-loop-place : goal.invariant-loop-place
invariant-loop-place l = NoneIn l.self l.now l.from l.place
