use Rattle.pipe_laws.proofs.Losing as losing
use Rattle.pipe_laws.proofs.nothing_is_lost.Goals as goal

pub returns : goal.returns
returns g c = losing.nothing_is_lost _ _
