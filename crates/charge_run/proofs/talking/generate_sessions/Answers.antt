use Rattle.std.proofs.Common.{refl}
use Rattle.pair_command.proofs.Sessions.{no_memory}
use Rattle.charge_run.proofs.talking.generate_sessions.Goals as goal

pub returns-in-Err-clause-leaves : goal.returns-in-Err-clause-leaves
returns-in-Err-clause-leaves g c = no_memory _ _ _ _ _ _ (refl, refl)
