use Rattle.own_traces.proofs.Weights.{sixth_passes}
use Rattle.own_traces.proofs.spells_within.Goals as goal

pub returns : goal.returns
returns g c = sixth_passes _
