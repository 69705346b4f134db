use Rattle.replay_command.proofs.Decided.{decided}
use Rattle.replay_command.proofs.Leaving.{run_leaves, run_read, refused_leaves, refused_read}
use Rattle.replay_command.proofs.Complete.{complete}
use Rattle.replay_command.proofs.command.replay.Goals as goal

pub returns-in-Ok-clause-leaves : goal.returns-in-Ok-clause-leaves
returns-in-Ok-clause-leaves g c =
    let leaves = run_leaves _ _ _ c.in-Ok.recording.plan c.in-Ok.recording.entries.items _ _ _ _ _ c.in-Ok.ensures.read c.replay_recording.ensures.ran in
    let unread = run_read _ _ c.in-Ok.recording.plan c.in-Ok.recording.entries.items _ _ _ _ _ _ c.in-Ok.ensures.faults c.replay_recording.ensures.ran in
    record {
      leaves = leaves;
      unread = unread;
      decided = decided _ _ _ _ _ _ _ _ leaves unread;
    }

pub returns-in-Err-clause-leaves : goal.returns-in-Err-clause-leaves
returns-in-Err-clause-leaves g c =
    let leaves = refused_leaves _ _ c.in-Err.fault _ _ _ _ _ c.in-Err.ensures.fault c.refuse.ensures.refuses in
    let unread = refused_read c.in-Err.fault _ _ _ _ _ c.in-Err.ensures.faults c.refuse.ensures.refuses in
    record {
      leaves = leaves;
      unread = unread;
      decided = decided _ _ _ _ _ _ _ _ leaves unread;
    }

pub returns-in-Ok-clause-complete : goal.returns-in-Ok-clause-complete
returns-in-Ok-clause-complete g c = complete _ _ _ _ _ _ _ _ (returns-in-Ok-clause-leaves g c) c.replay_recording.ensures.sink_fault
