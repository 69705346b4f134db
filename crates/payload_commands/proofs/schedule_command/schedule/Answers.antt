use Rattle.std.proofs.Common.{ap}
use Rattle.command_status.specs.Told.{SinkTold}
use Rattle.payload_commands.proofs.ScheduleLeaving.{answers, refuses, memory_leaves, sink_leaves}
use Rattle.payload_commands.proofs.ScheduleComplete.{complete}
use Rattle.payload_commands.proofs.schedule_command.schedule.Goals as goal

pub returns-in-Ok-clause-leaves : goal.returns-in-Ok-clause-leaves
returns-in-Ok-clause-leaves g c =
    answers c.in-Ok.need c.answer.result c.args.hex.now _ _ _ c.in-Ok.ensures.within c.in-Ok.ensures.need c.in-Ok.ensures.faults
    c.answer.ensures.answers c.answer.ensures.other

pub returns-in-Err-clause-leaves : goal.returns-in-Err-clause-leaves
returns-in-Err-clause-leaves g c =
    refuses c.in-Err.fault c.refuse_file.result c.args.hex.now _ _ _ c.in-Err.ensures.fault c.in-Err.ensures.faults c.refuse_file.ensures

pub returns-in-Ok-clause-no_memory : goal.returns-in-Ok-clause-no_memory
returns-in-Ok-clause-no_memory g c is =
    let same = memory_leaves _ _ _ _ _ (returns-in-Ok-clause-leaves g c) is in
    (ap (λ (k : SinkTold). k.taken) same, ap (λ (k : SinkTold). k.faults) same)

pub returns-in-Ok-clause-sink_fault : goal.returns-in-Ok-clause-sink_fault
returns-in-Ok-clause-sink_fault g c is = sink_leaves _ _ _ _ _ (returns-in-Ok-clause-leaves g c) is

pub returns-in-Err-clause-no_memory : goal.returns-in-Err-clause-no_memory
returns-in-Err-clause-no_memory g c is =
    let same = memory_leaves _ _ _ _ _ (returns-in-Err-clause-leaves g c) is in
    (ap (λ (k : SinkTold). k.taken) same, ap (λ (k : SinkTold). k.faults) same)

pub returns-in-Err-clause-sink_fault : goal.returns-in-Err-clause-sink_fault
returns-in-Err-clause-sink_fault g c is = sink_leaves _ _ _ _ _ (returns-in-Err-clause-leaves g c) is

pub returns-in-Ok-clause-complete : goal.returns-in-Ok-clause-complete
returns-in-Ok-clause-complete g c = complete _ _ _ _ _ (returns-in-Ok-clause-leaves g c)

pub returns-in-Err-clause-complete : goal.returns-in-Err-clause-complete
returns-in-Err-clause-complete g c = complete _ _ _ _ _ (returns-in-Err-clause-leaves g c)
