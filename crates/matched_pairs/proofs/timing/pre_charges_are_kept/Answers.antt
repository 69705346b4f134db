use Rattle.matched_pairs.proofs.Charged as charged
use Rattle.matched_pairs.proofs.timing.pre_charges_are_kept.Goals as goal

pub returns : goal.returns
returns g c = charged.pre_charges_are_kept _ _
