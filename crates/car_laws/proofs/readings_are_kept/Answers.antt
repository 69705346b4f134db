use Rattle.car_laws.proofs.KeptActs.{readings_kept}
use Rattle.car_laws.proofs.readings_are_kept.Goals as goal

pub returns : goal.returns
returns g c = readings_kept _
