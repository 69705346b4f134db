use Rattle.determined_runs.proofs.Once.{inputs_determine as determine}
use Rattle.determined_runs.proofs.inputs_determine.Goals as goal

pub returns : goal.returns
returns g c = determine _
