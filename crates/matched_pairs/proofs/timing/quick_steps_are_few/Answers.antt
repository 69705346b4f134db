use Rattle.matched_pairs.proofs.Counted as few
use Rattle.matched_pairs.proofs.timing.quick_steps_are_few.Goals as goal

pub returns : goal.returns
returns g c = few.quick_steps_are_few _ _
