use Rattle.std.proofs.Common.{◌≡◌, min, subst}
use Rattle.wire_events.specs.declared.seat.Seat.{Seat}
use Rattle.wire_events.proofs.Waits.{least_more}
use Rattle.wire_events.proofs.board.Board.least_due.Goals as goal

pub loop-place-preserved : goal.loop-place-preserved
loop-place-preserved c =
    least_more c.args.self.now c.args.until c.loop-place.place c.loop-place.least c.min-least.result c.loop-place.invariant
    (subst (λ (s : Seat). c.min-least.result ≡ min c.loop-place.least s.due) c.seat.ensures c.min-least.ensures)
