use Rattle.own_courses.proofs.Watts.{seventh_passes}
use Rattle.own_courses.proofs.writes_told_watts.Goals as goal

pub returns : goal.returns
returns g c = seventh_passes _
