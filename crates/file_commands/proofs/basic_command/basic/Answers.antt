use Rattle.std.proofs.Common.{List, ℕ, string_bytes, subst}
use Rattle.command_status.specs.Told.{SinkTold, sink_told, Prints}
use Rattle.file_commands.proofs.BasicLeaving.{prints, refuses}
use Rattle.file_commands.proofs.BasicComplete.{complete}
use Rattle.file_commands.proofs.basic_command.basic.Goals as goal

pub returns-in-Ok-clause-leaves : goal.returns-in-Ok-clause-leaves
returns-in-Ok-clause-leaves g c =
    let before : SinkTold = sink_told (g.K.Sink.taken c.args.out.now) (g.K.Sink.faults c.args.out.now) in
    let after : SinkTold = sink_told (g.K.Sink.taken c.print_lines.new.out) (g.K.Sink.faults c.print_lines.new.out) in
    let printed = subst (λ (lines : List ℕ). Prints lines c.print_lines.result before after) c.as_str.ensures.value c.print_lines.ensures in
    prints (string_bytes c.in-Ok.lines) c.print_lines.result _ before after c.in-Ok.ensures.printed c.in-Ok.ensures.faults printed

pub returns-in-Err-clause-leaves : goal.returns-in-Err-clause-leaves
returns-in-Err-clause-leaves g c = refuses c.in-Err.fault c.refuse.result _ _ _ c.in-Err.ensures.fault c.in-Err.ensures.faults c.refuse.ensures.refuses

pub returns-in-Ok-clause-complete : goal.returns-in-Ok-clause-complete
returns-in-Ok-clause-complete g c = complete _ _ _ _ (returns-in-Ok-clause-leaves g c)

pub returns-in-Err-clause-complete : goal.returns-in-Err-clause-complete
returns-in-Err-clause-complete g c = complete _ _ _ _ (returns-in-Err-clause-leaves g c)
