use Rattle.read_agendas.proofs.Leaving.{agendas_are_read}
use Rattle.read_agendas.proofs.agendas_are_read.Goals as goal

pub returns : goal.returns
returns g c = agendas_are_read _
