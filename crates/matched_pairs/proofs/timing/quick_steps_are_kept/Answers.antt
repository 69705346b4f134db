use Rattle.matched_pairs.proofs.Quick as quick
use Rattle.matched_pairs.proofs.timing.quick_steps_are_kept.Goals as goal

pub returns : goal.returns
returns g c = quick.quick_steps_are_kept _ _
