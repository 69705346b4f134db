use Rattle.own_traces.proofs.Left.{only_courses_left}
use Rattle.own_traces.proofs.only_courses_are_left.Goals as goal

pub returns : goal.returns
returns g c = only_courses_left _
