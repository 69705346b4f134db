use Rattle.caused_ends.proofs.Causing.{runs_open_first}
use Rattle.caused_ends.proofs.opens_at_first_causes.Goals as goal

pub returns : goal.returns
returns g c = runs_open_first _
