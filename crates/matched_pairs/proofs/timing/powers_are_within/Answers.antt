use Rattle.matched_pairs.proofs.Power as power
use Rattle.matched_pairs.proofs.timing.powers_are_within.Goals as goal

pub returns : goal.returns
returns g c = power.powers_are_within _ _
