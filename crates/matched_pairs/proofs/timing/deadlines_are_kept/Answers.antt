use Rattle.matched_pairs.proofs.Deadlines as deadlines
use Rattle.matched_pairs.proofs.timing.deadlines_are_kept.Goals as goal

pub returns : goal.returns
returns g c = deadlines.deadlines_are_kept _ _
