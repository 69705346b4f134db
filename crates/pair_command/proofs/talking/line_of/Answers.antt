use Rattle.std.proofs.Common.{string_bytes}
use Rattle.pair_command.proofs.Lines.{told_line}
use Rattle.pair_command.proofs.talking.line_of.Goals as goal

pub returns : goal.returns
returns g c = told_line _ _ _ _ _ c.in_ok-report.report string_bytes c.talk_line.result c.in_ok-report.ensures c.talk_line.ensures
