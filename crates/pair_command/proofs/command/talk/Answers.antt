use Rattle.post_spec.specs.Codecs.{codecs}
use Rattle.car_spec.specs.Codecs as car_codecs
use Rattle.pair_command.proofs.Leaving.{has_talked, was_refused, unprinted, sink_failed}
use Rattle.pair_command.proofs.Complete.{complete}
use Rattle.pair_command.proofs.command.talk.Goals as goal

pub returns-in-Ok-clause-leaves : goal.returns-in-Ok-clause-leaves
returns-in-Ok-clause-leaves g c =
    has_talked _ _ (record { of_station = g.met.C.LawfulCodec.determined; of_car = g.met.D.LawfulCarCodec.determined }) _ _ c.print_talk.result c.in-Ok.plans.station c.in-Ok.plans.car _ _ _
    c.in-Ok.ensures.read c.in-Ok.ensures.faults c.print_talk.ensures

pub returns-in-Err-clause-leaves : goal.returns-in-Err-clause-leaves
returns-in-Err-clause-leaves g c =
    was_refused _ _ (record { of_station = g.met.C.LawfulCodec.determined; of_car = g.met.D.LawfulCarCodec.determined }) _ _ c.in-Err.fault c.refuse_file.result _ _ _
    c.in-Err.ensures.fault c.in-Err.ensures.faults c.refuse_file.ensures

pub returns-in-Ok-clause-no_memory : goal.returns-in-Ok-clause-no_memory
returns-in-Ok-clause-no_memory g c = unprinted _ _ _ _ _ _ _ _ (returns-in-Ok-clause-leaves g c)

pub returns-in-Err-clause-no_memory : goal.returns-in-Err-clause-no_memory
returns-in-Err-clause-no_memory g c = unprinted _ _ _ _ _ _ _ _ (returns-in-Err-clause-leaves g c)

pub returns-in-Ok-clause-sink_fault : goal.returns-in-Ok-clause-sink_fault
returns-in-Ok-clause-sink_fault g c = sink_failed _ _ _ _ _ _ _ _ (returns-in-Ok-clause-leaves g c)

pub returns-in-Err-clause-sink_fault : goal.returns-in-Err-clause-sink_fault
returns-in-Err-clause-sink_fault g c = sink_failed _ _ _ _ _ _ _ _ (returns-in-Err-clause-leaves g c)

pub returns-in-Ok-clause-complete : goal.returns-in-Ok-clause-complete
returns-in-Ok-clause-complete g c = complete _ _ _ _ _ _ _ _ (returns-in-Ok-clause-leaves g c)

pub returns-in-Err-clause-complete : goal.returns-in-Err-clause-complete
returns-in-Err-clause-complete g c = complete _ _ _ _ _ _ _ _ (returns-in-Err-clause-leaves g c)
