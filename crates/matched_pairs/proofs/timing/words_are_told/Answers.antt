use Rattle.matched_pairs.proofs.Told as told
use Rattle.matched_pairs.proofs.timing.words_are_told.Goals as goal

pub returns : goal.returns
returns g c = told.words_are_told _ _
