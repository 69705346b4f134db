use Rattle.std.proofs.Common.{refl}
use Rattle.replay_command.proofs.Decided.{no_memory}
use Rattle.charge_run.proofs.replaying.replay_trace.Goals as goal

pub returns-in-Err-clause-leaves : goal.returns-in-Err-clause-leaves
returns-in-Err-clause-leaves g c = no_memory _ _ _ _ _ refl
