use Rattle.station_laws.proofs.Told.{told_within}
use Rattle.station_laws.proofs.told_within_limit.Goals as goal

pub returns : goal.returns
returns g c = told_within _
