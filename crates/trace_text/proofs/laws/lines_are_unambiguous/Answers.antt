use Rattle.trace_text.proofs.WholeLines.{line_same, numbered_same}
use Rattle.trace_text.proofs.laws.lines_are_unambiguous.Goals as goal

pub returns : goal.returns
returns c = record { plain = line_same; numbered = numbered_same }
