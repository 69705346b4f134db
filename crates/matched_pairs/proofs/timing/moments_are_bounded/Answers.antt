use Rattle.matched_pairs.proofs.Bounds as bounds
use Rattle.matched_pairs.proofs.timing.moments_are_bounded.Goals as goal

pub returns : goal.returns
returns g c = bounds.moments_are_bounded _ _
