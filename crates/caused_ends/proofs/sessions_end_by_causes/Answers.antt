use Rattle.caused_ends.proofs.Causing.{runs_end_by_causes}
use Rattle.caused_ends.proofs.sessions_end_by_causes.Goals as goal

pub returns : goal.returns
returns g c = runs_end_by_causes _
