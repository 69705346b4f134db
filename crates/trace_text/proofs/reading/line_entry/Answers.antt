use Rattle.trace_text.proofs.WholeLines.{line_read}
use Rattle.trace_text.proofs.reading.line_entry.Goals as goal

pub returns-in-Ok : goal.returns-in-Ok
returns-in-Ok c =
    line_read c.args.line.now c.in-Ok.text.now c.entry.result c.in-Ok.ensures c.if-line-le131200.true (rw c.of.ensures at c.entry.ensures)
