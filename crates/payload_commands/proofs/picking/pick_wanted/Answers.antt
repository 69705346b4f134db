use Rattle.std.proofs.Common.{List, ℕ, string_bytes, subst}
use Rattle.command_status.specs.Told.{SinkTold, sink_told, Prints}
use Rattle.payload_commands.proofs.ServiceLeaving.{printed_picks, refused_picks}
use Rattle.payload_commands.proofs.picking.pick_wanted.Goals as goal

pub returns-in-Ok : goal.returns-in-Ok
returns-in-Ok g c =
    let before : SinkTold = sink_told (g.K.Sink.taken c.args.out.now) (g.K.Sink.faults c.args.out.now) in
    let after : SinkTold = sink_told (g.K.Sink.taken c.print_lines.new.out) (g.K.Sink.faults c.print_lines.new.out) in
    let printed = subst (λ (lines : List ℕ). Prints lines c.print_lines.result before after) c.as_str.ensures.value c.print_lines.ensures in
    printed_picks c.args.want.now.pairs.items c.args.hex.now (string_bytes c.in-Ok.line) c.print_lines.result before after c.in-Ok.ensures.line printed

pub returns-in-Err : goal.returns-in-Err
returns-in-Err g c =
    refused_picks c.args.want.now.pairs.items c.args.hex.now c.in-Err.fault c.refuse.result _ _ c.in-Err.ensures.fault c.refuse.ensures
