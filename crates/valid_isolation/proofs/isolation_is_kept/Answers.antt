use Rattle.valid_isolation.proofs.Kept.{runs_keep}
use Rattle.valid_isolation.proofs.isolation_is_kept.Goals as goal

pub returns : goal.returns
returns g c = runs_keep _
