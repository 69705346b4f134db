use Rattle.matched_pairs.proofs.Contactors as contactors
use Rattle.matched_pairs.proofs.going.contactors_follow.Goals as goal

pub returns : goal.returns
returns g c = contactors.contactors_follow _ _
