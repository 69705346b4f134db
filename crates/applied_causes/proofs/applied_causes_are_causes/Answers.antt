use Rattle.applied_causes.proofs.Applied.{runs_apply_causes}
use Rattle.applied_causes.proofs.applied_causes_are_causes.Goals as goal

pub returns : goal.returns
returns g c = runs_apply_causes _
