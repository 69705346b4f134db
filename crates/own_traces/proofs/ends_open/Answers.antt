use Rattle.own_traces.proofs.Openings.{eighth_passes}
use Rattle.own_traces.proofs.ends_open.Goals as goal

pub returns : goal.returns
returns g c = eighth_passes _
