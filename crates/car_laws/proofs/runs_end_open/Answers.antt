use Rattle.car_laws.proofs.Opening.{ends_open}
use Rattle.car_laws.proofs.runs_end_open.Goals as goal

pub returns : goal.returns
returns g c = ends_open _
