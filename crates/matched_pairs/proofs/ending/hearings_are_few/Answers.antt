use Rattle.matched_pairs.proofs.Few as few
use Rattle.matched_pairs.proofs.ending.hearings_are_few.Goals as goal

pub returns : goal.returns
returns g c = few.hearings_are_few _ _
