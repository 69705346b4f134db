use Rattle.heard_deadlines.proofs.Acted.{runs_are_late_by_hearing}
use Rattle.heard_deadlines.proofs.deadlines_come_by_hearings.Goals as goal

pub returns : goal.returns
returns g c = runs_are_late_by_hearing _
