use Rattle.pipe_laws.proofs.Runs.{one_is_under_way}
use Rattle.pipe_laws.proofs.one_message_is_under_way.Goals as goal

pub returns : goal.returns
returns g c = one_is_under_way _ _
