use Rattle.own_traces.proofs.Replying.{second_passes}
use Rattle.own_traces.proofs.fails_none_while_live.Goals as goal

pub returns : goal.returns
returns g c = second_passes _
