use Rattle.matched_pairs.proofs.Opening as opening
use Rattle.matched_pairs.proofs.going.contactors_are_opened.Goals as goal

pub returns : goal.returns
returns g c = opening.contactors_are_opened _ _
