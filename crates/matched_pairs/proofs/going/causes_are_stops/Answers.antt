use Rattle.matched_pairs.proofs.Causes as causes
use Rattle.matched_pairs.proofs.going.causes_are_stops.Goals as goal

pub returns : goal.returns
returns g c = causes.causes_are_stops _ _
