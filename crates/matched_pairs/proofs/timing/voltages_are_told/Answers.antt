use Rattle.matched_pairs.proofs.Voltages as voltages
use Rattle.matched_pairs.proofs.timing.voltages_are_told.Goals as goal

pub returns : goal.returns
returns g c = voltages.voltages_are_told _ _
