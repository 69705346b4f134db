use Rattle.matched_pairs.proofs.Causes as causes
use Rattle.matched_pairs.proofs.going.sessions_end_by_stop.Goals as goal

pub returns : goal.returns
returns g c = causes.sessions_end_by_stop _ _
