use Rattle.matched_pairs.proofs.Timely as deadlines
use Rattle.matched_pairs.proofs.timing.timely_sessions_are_undisturbed.Goals as goal

pub returns : goal.returns
returns g c = deadlines.timely_sessions_are_undisturbed _ _
