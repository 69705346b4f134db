use Rattle.read_agendas.proofs.Leaving.{sessions_are_read_between}
use Rattle.read_agendas.proofs.sessions_are_read_between.Goals as goal

pub returns : goal.returns
returns g c = sessions_are_read_between _
