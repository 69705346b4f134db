use Rattle.spelled_watts.proofs.Once.{are_spelled_once}
use Rattle.spelled_watts.proofs.spelled_once.Goals as goal

pub returns : goal.returns
returns g c = are_spelled_once _
