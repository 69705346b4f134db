use Rattle.coming_causes_open.proofs.Causing.{runs_end}
use Rattle.coming_causes_open.proofs.ends_at_causes.Goals as goal

pub returns : goal.returns
returns g c = runs_end _
