use Rattle.mandated_runs.proofs.Holds.{runs_end}
use Rattle.mandated_runs.proofs.ends_as_mandated.Goals as goal

pub returns : goal.returns
returns g c = runs_end _
