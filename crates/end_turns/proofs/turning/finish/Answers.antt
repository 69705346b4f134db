use Rattle.std.proofs.Common.{◌≡◌, refl, inl}
use Rattle.std.specs.Prelude.{is_ok}
use Rattle.trace_lines.specs.declared.TraceFailed.{TraceFailed}
use Rattle.endpoint.specs.Telling.{IsTraced, IsClosedSo}
use Rattle.endpoint.proofs.Carry.{text_to}
use Rattle.endpoint.proofs.Orders.{text_closing}
use Rattle.end_turns.specs.Turns.{ClosedText}
use Rattle.end_turns.proofs.Finished.{closes_written, finished_by, written_text, closed_faults, turn_faults}
use Rattle.end_turns.proofs.turning.finish.Goals as goal

pub returns-in-Err-clause-traced : goal.returns-in-Err-clause-traced
returns-in-Err-clause-traced g c = rw c.in-Err.is (text_closing _ _ _ c.cut.ensures.orders)

pub returns-in-Ok-clause-closed : goal.returns-in-Ok-clause-closed
returns-in-Ok-clause-closed g c blocks = rw (closes_written c.close.result c.in-Ok.last c.closed.result c.closed.ensures.ok c.closed.ensures.failed) at (c.close.ensures.closed blocks)

pub returns-in-Ok-clause-traced : goal.returns-in-Ok-clause-traced
returns-in-Ok-clause-traced g c =
    rw c.in-Ok.is
    (text_to _ _ _ _ (IsTraced c.args.hearing) (IsClosedSo c.args.hearing c.close.result) (ClosedText c.closed.result c.args.hearing)
    (λ past text h. written_text c.close.result c.in-Ok.last c.closed.result c.args.hearing past text c.closed.ensures.ok c.closed.ensures.failed h) c.close.ensures.traced)

pub returns-in-Ok-clause-how : goal.returns-in-Ok-clause-how
returns-in-Ok-clause-how g c = rw c.in-Ok.is (finished_by TraceFailed c.close.result c.in-Ok.last c.closed.result c.closed.ensures.ok c.closed.ensures.failed)

pub returns-in-Ok-clause-writes : goal.returns-in-Ok-clause-writes
returns-in-Ok-clause-writes g c start f =
    let before = rw c.in-Ok.is at f in
    closed_faults start _ _ c.in-Ok.last c.in-Ok.last c.close.result c.closed.result before c.close.ensures.writes c.closed.ensures.ok c.closed.ensures.failed

pub returns-in-Err-clause-how : goal.returns-in-Err-clause-how
returns-in-Err-clause-how g c = rw c.in-Err.is (inl refl)

pub returns-in-Err-clause-writes : goal.returns-in-Err-clause-writes
returns-in-Err-clause-writes g c start f = turn_faults start _ _ (rw c.in-Err.is at f)
