use Rattle.std.proofs.Common.{ap}
use Rattle.command_status.specs.Told.{SinkTold}
use Rattle.payload_commands.proofs.ServiceLeaving.{wanted, memory_picks, sink_picks}
use Rattle.payload_commands.proofs.ServiceComplete.{complete_pick}
use Rattle.payload_commands.proofs.picking.pick.Goals as goal

pub returns-in-Ok-clause-leaves : goal.returns-in-Ok-clause-leaves
returns-in-Ok-clause-leaves g c =
    wanted c.pick_wanted.result c.in-Ok.want.pairs.items c.args.want.now c.args.hex.now _ _ c.in-Ok.ensures c.pick_wanted.ensures

pub returns-in-Ok-clause-no_memory : goal.returns-in-Ok-clause-no_memory
returns-in-Ok-clause-no_memory g c is =
    let same = memory_picks _ _ _ _ _ (returns-in-Ok-clause-leaves g c) is in
    (ap (λ (k : SinkTold). k.taken) same, ap (λ (k : SinkTold). k.faults) same)

pub returns-in-Ok-clause-sink_fault : goal.returns-in-Ok-clause-sink_fault
returns-in-Ok-clause-sink_fault g c is = sink_picks _ _ _ _ _ (returns-in-Ok-clause-leaves g c) is

pub returns-in-Ok-clause-complete : goal.returns-in-Ok-clause-complete
returns-in-Ok-clause-complete g c = complete_pick c.pick_wanted.result c.args.want.now c.args.hex.now _ _ (returns-in-Ok-clause-leaves g c)
