use Rattle.own_traces.proofs.Left.{few_left}
use Rattle.own_traces.proofs.few_checks_are_left.Goals as goal

pub returns : goal.returns
returns g c = few_left _
