use Rattle.matched_pairs.proofs.Deadlines as deadlines
use Rattle.matched_pairs.proofs.timing.steady_sessions_end.Goals as goal

pub returns : goal.returns
returns g c = deadlines.steady_sessions_end _ _
