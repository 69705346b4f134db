use Rattle.safe_runs.proofs.Openings.{runs_end_open}
use Rattle.safe_runs.proofs.ends_open.Goals as goal

pub returns : goal.returns
returns g c = runs_end_open _
