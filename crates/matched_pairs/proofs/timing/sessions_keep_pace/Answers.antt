use Rattle.matched_pairs.proofs.Paces as paces
use Rattle.matched_pairs.proofs.timing.sessions_keep_pace.Goals as goal

pub returns : goal.returns
returns g c = paces.sessions_keep_pace _ _
