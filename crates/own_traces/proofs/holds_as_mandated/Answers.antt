use Rattle.own_traces.proofs.Closing.{fifth_passes}
use Rattle.own_traces.proofs.holds_as_mandated.Goals as goal

pub returns : goal.returns
returns g c = fifth_passes _
