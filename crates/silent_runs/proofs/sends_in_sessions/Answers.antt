use Rattle.silent_runs.proofs.Silence.{runs_are_silent}
use Rattle.silent_runs.proofs.sends_in_sessions.Goals as goal

pub returns : goal.returns
returns g c = runs_are_silent _
