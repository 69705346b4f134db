use Rattle.own_traces.proofs.Closing.{first_passes}
use Rattle.own_traces.proofs.closes_as_mandated.Goals as goal

pub returns : goal.returns
returns g c = first_passes _
