use Rattle.valid_isolation.proofs.Kept.{runs_read}
use Rattle.valid_isolation.proofs.words_are_isolated.Goals as goal

pub returns : goal.returns
returns g c = runs_read _
