use Rattle.read_runs.proofs.Courses.{courses_are_read}
use Rattle.read_runs.proofs.courses_are_read.Goals as goal

pub returns : goal.returns
returns g c = courses_are_read _
