use Rattle.std.proofs.Common.{List, ℕ, string_bytes, subst}
use Rattle.command_status.specs.Told.{SinkTold, sink_told, Prints}
use Rattle.payload_commands.proofs.ScheduleLeaving.{printed_answers, printed_status, refused_answers, refused_status}
use Rattle.payload_commands.proofs.schedule_command.answer.Goals as goal

pub returns-in-Ok-clause-answers : goal.returns-in-Ok-clause-answers
returns-in-Ok-clause-answers g c =
    let before : SinkTold = sink_told (g.K.Sink.taken c.args.out.now) (g.K.Sink.faults c.args.out.now) in
    let after : SinkTold = sink_told (g.K.Sink.taken c.print_lines.new.out) (g.K.Sink.faults c.print_lines.new.out) in
    let printed = subst (λ (lines : List ℕ). Prints lines c.print_lines.result before after) c.as_str.ensures.value c.print_lines.ensures in
    printed_answers c.args.need c.args.hex.now (string_bytes c.in-Ok.text) c.print_lines.result before after c.in-Ok.ensures.text printed

pub returns-in-Ok-clause-other : goal.returns-in-Ok-clause-other
returns-in-Ok-clause-other g c = printed_status _ c.print_lines.result _ _ c.print_lines.ensures

pub returns-in-Err-clause-answers : goal.returns-in-Err-clause-answers
returns-in-Err-clause-answers g c =
    refused_answers c.args.need c.args.hex.now c.in-Err.fault c.refuse.result _ _ c.in-Err.ensures.fault c.refuse.ensures

pub returns-in-Err-clause-other : goal.returns-in-Err-clause-other
returns-in-Err-clause-other g c = refused_status c.in-Err.fault c.refuse.result _ _ c.refuse.ensures
