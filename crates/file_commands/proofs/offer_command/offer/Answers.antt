use Rattle.std.proofs.Common.{List, ℕ, string_bytes, ap, subst}
use Rattle.command_status.specs.Told.{SinkTold, sink_told, Prints}
use Rattle.file_commands.proofs.OfferLeaving.{prints, refuses, memory_leaves, sink_leaves}
use Rattle.file_commands.proofs.OfferComplete.{complete}
use Rattle.file_commands.proofs.offer_command.offer.Goals as goal

pub returns-in-Ok-clause-leaves : goal.returns-in-Ok-clause-leaves
returns-in-Ok-clause-leaves g c =
    let before : SinkTold = sink_told (g.K.Sink.taken c.args.out.now) (g.K.Sink.faults c.args.out.now) in
    let after : SinkTold = sink_told (g.K.Sink.taken c.print_lines.new.out) (g.K.Sink.faults c.print_lines.new.out) in
    let printed = subst (λ (lines : List ℕ). Prints lines c.print_lines.result before after) c.as_str.ensures.value c.print_lines.ensures in
    prints c.one_offer.ensures c.args.moment (string_bytes c.in-Ok.lines) c.print_lines.result _ before after c.in-Ok.ensures.offered c.in-Ok.ensures.faults printed

pub returns-in-Err-clause-leaves : goal.returns-in-Err-clause-leaves
returns-in-Err-clause-leaves g c =
    refuses c.args.moment c.in-Err.fault c.refuse_file.result _ _ _ c.in-Err.ensures.fault c.in-Err.ensures.faults c.refuse_file.ensures

pub returns-in-Ok-clause-no_memory : goal.returns-in-Ok-clause-no_memory
returns-in-Ok-clause-no_memory g c is =
    let same = memory_leaves _ _ _ _ _ (returns-in-Ok-clause-leaves g c) is in
    (ap (λ (k : SinkTold). k.taken) same, ap (λ (k : SinkTold). k.faults) same)

pub returns-in-Ok-clause-sink_fault : goal.returns-in-Ok-clause-sink_fault
returns-in-Ok-clause-sink_fault g c is = sink_leaves _ _ _ _ _ (returns-in-Ok-clause-leaves g c) is

pub returns-in-Err-clause-no_memory : goal.returns-in-Err-clause-no_memory
returns-in-Err-clause-no_memory g c is =
    let same = memory_leaves _ _ _ _ _ (returns-in-Err-clause-leaves g c) is in
    (ap (λ (k : SinkTold). k.taken) same, ap (λ (k : SinkTold). k.faults) same)

pub returns-in-Err-clause-sink_fault : goal.returns-in-Err-clause-sink_fault
returns-in-Err-clause-sink_fault g c is = sink_leaves _ _ _ _ _ (returns-in-Err-clause-leaves g c) is

pub returns-in-Ok-clause-complete : goal.returns-in-Ok-clause-complete
returns-in-Ok-clause-complete g c = complete _ _ _ _ _ (returns-in-Ok-clause-leaves g c)

pub returns-in-Err-clause-complete : goal.returns-in-Err-clause-complete
returns-in-Err-clause-complete g c = complete _ _ _ _ _ (returns-in-Err-clause-leaves g c)
