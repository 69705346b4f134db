use Rattle.pair_negotiation.proofs.Beginning as beginning
use Rattle.pair_negotiation.proofs.pairs_begin.Goals as goal

pub returns : goal.returns
returns g c = beginning.pairs_begin _ _
