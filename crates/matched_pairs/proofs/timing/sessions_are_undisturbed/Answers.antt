use Rattle.matched_pairs.proofs.Undisturbed as undisturbed
use Rattle.matched_pairs.proofs.timing.sessions_are_undisturbed.Goals as goal

pub returns : goal.returns
returns g c = undisturbed.sessions_are_undisturbed _ _
