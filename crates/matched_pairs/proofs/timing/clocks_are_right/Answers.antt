use Rattle.matched_pairs.proofs.Clocks as clocks
use Rattle.matched_pairs.proofs.timing.clocks_are_right.Goals as goal

pub returns : goal.returns
returns g c = clocks.clocks_are_right _ _
