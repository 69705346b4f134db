use Rattle.own_traces.proofs.Replying.{ninth_passes}
use Rattle.own_traces.proofs.answers_requests.Goals as goal

pub returns : goal.returns
returns g c = ninth_passes _
