use Rattle.safe_runs.proofs.Openings.{runs_open_again}
use Rattle.safe_runs.proofs.opens_again.Goals as goal

pub returns : goal.returns
returns g c = runs_open_again _
