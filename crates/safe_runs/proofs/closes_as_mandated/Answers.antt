use Rattle.safe_runs.proofs.Safety.{runs_close}
use Rattle.safe_runs.proofs.closes_as_mandated.Goals as goal

pub returns : goal.returns
returns g c = runs_close _
