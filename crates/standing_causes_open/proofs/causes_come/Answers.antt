use Rattle.standing_causes_open.proofs.Coming.{runs_have_come}
use Rattle.standing_causes_open.proofs.causes_come.Goals as goal

pub returns : goal.returns
returns g c = runs_have_come _
