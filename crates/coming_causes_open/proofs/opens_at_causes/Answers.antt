use Rattle.coming_causes_open.proofs.Causing.{runs_open}
use Rattle.coming_causes_open.proofs.opens_at_causes.Goals as goal

pub returns : goal.returns
returns g c = runs_open _
