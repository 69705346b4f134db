use Rattle.std.proofs.Common.{rules}
use Rattle.wire_events.proofs.Waits.{is_later}
use Rattle.wire_events.proofs.board.Board.step.Goals as goal

pub returns : goal.returns
returns c =
    let none = c.in_default.ensures.none in
    (search rules, none, is_later c.args.self.now c.args.now c.args.until c.least_due.result none c.if-until-now.false c.least_due.ensures, c.least_due.ensures)
