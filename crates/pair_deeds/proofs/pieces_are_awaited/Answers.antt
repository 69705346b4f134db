use Rattle.pair_deeds.proofs.Fronts as fronts
use Rattle.pair_deeds.proofs.pieces_are_awaited.Goals as goal

pub returns : goal.returns
returns c = fronts.pieces_are_awaited
