use Rattle.mandated_runs.proofs.Holds.{runs_hold}
use Rattle.mandated_runs.proofs.holds_as_mandated.Goals as goal

pub returns : goal.returns
returns g c = runs_hold _
