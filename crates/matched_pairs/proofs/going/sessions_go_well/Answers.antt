use Rattle.matched_pairs.proofs.Courses as courses
use Rattle.matched_pairs.proofs.going.sessions_go_well.Goals as goal

pub returns : goal.returns
returns g c = courses.sessions_go_well _ _
