use Rattle.own_traces.proofs.Openings.{fourth_passes}
use Rattle.own_traces.proofs.opens_again.Goals as goal

pub returns : goal.returns
returns g c = fourth_passes _
