use Rattle.caused_ends.proofs.Causing.{runs_open_for_reasons}
use Rattle.caused_ends.proofs.opens_for_a_reason.Goals as goal

pub returns : goal.returns
returns g c = runs_open_for_reasons _
