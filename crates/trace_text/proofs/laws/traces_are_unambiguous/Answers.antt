use Rattle.trace_text.proofs.Traces.{same_past_1, same_past_2, two_formats}
use Rattle.trace_text.proofs.laws.traces_are_unambiguous.Goals as goal

pub returns : goal.returns
returns c = record { format_1 = same_past_1; format_2 = same_past_2; formats = two_formats }
