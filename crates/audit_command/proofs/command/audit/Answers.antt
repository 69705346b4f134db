use Rattle.audit_command.proofs.Leaving.{was_audited, was_refused, unprinted, sink_failed}
use Rattle.audit_command.proofs.Complete.{complete}
use Rattle.audit_command.proofs.command.audit.Goals as goal

pub returns-in-Ok-clause-leaves : goal.returns-in-Ok-clause-leaves
returns-in-Ok-clause-leaves g c =
    was_audited _ _ c.audit_recording.result c.in-Ok.recording.plan c.in-Ok.recording.entries.items _ _ _ c.in-Ok.ensures.read c.in-Ok.ensures.faults
    c.audit_recording.ensures.audited

pub returns-in-Err-clause-leaves : goal.returns-in-Err-clause-leaves
returns-in-Err-clause-leaves g c =
    was_refused _ _ c.in-Err.fault c.refuse.result _ _ _ c.in-Err.ensures.fault c.in-Err.ensures.faults c.refuse.ensures

pub returns-in-Ok-clause-no_memory : goal.returns-in-Ok-clause-no_memory
returns-in-Ok-clause-no_memory g c = unprinted _ _ _ _ _ _ (returns-in-Ok-clause-leaves g c)

pub returns-in-Err-clause-no_memory : goal.returns-in-Err-clause-no_memory
returns-in-Err-clause-no_memory g c = unprinted _ _ _ _ _ _ (returns-in-Err-clause-leaves g c)

pub returns-in-Ok-clause-sink_fault : goal.returns-in-Ok-clause-sink_fault
returns-in-Ok-clause-sink_fault g c = sink_failed _ _ _ _ _ _ (returns-in-Ok-clause-leaves g c)

pub returns-in-Err-clause-sink_fault : goal.returns-in-Err-clause-sink_fault
returns-in-Err-clause-sink_fault g c = sink_failed _ _ _ _ _ _ (returns-in-Err-clause-leaves g c)

pub returns-in-Ok-clause-complete : goal.returns-in-Ok-clause-complete
returns-in-Ok-clause-complete g c = complete _ _ _ _ _ _ (returns-in-Ok-clause-leaves g c)

pub returns-in-Err-clause-complete : goal.returns-in-Err-clause-complete
returns-in-Err-clause-complete g c = complete _ _ _ _ _ _ (returns-in-Err-clause-leaves g c)
