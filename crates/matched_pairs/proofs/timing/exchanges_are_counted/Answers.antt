use Rattle.matched_pairs.proofs.Counting as counting
use Rattle.matched_pairs.proofs.timing.exchanges_are_counted.Goals as goal

pub returns : goal.returns
returns g c = counting.exchanges_are_counted _ _
