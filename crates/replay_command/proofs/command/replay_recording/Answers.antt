use Rattle.replay_command.proofs.Leaving.{ran}
use Rattle.replay_command.proofs.command.replay_recording.Goals as goal

pub returns-in-Ok-clause-ran : goal.returns-in-Ok-clause-ran
returns-in-Ok-clause-ran g c =
    ran _ c.args.recording.plan c.args.recording.entries.items c.replay-replayed.result.ended c.replay-replayed.result.entries c.conclude.result _ _ _ _
    (c.replay-replayed.ensures.replayed c.args.recording.plan c.in-Ok.ensures.made) c.replay-replayed.ensures.faults c.conclude.ensures
