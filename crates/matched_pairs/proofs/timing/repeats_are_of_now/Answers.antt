use Rattle.matched_pairs.proofs.Repeats as repeats
use Rattle.matched_pairs.proofs.timing.repeats_are_of_now.Goals as goal

pub returns : goal.returns
returns g c = repeats.repeats_are_of_now _ _
