use Rattle.std.proofs.Common.{string_bytes}
use Rattle.pair_command.proofs.Lines.{counted_line}
use Rattle.pair_command.proofs.generating.line_of.Goals as goal

pub returns : goal.returns
returns g c = counted_line _ _ _ _ _ string_bytes c.generated_line.result c.in_ok-counts.ensures c.generated_line.ensures
