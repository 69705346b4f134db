use Rattle.own_courses.proofs.Opened.{third_passes}
use Rattle.own_courses.proofs.opens_at_causes.Goals as goal

pub returns : goal.returns
returns g c = third_passes _
