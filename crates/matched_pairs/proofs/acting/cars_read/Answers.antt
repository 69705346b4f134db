use Rattle.matched_pairs.proofs.CarReads as words
use Rattle.matched_pairs.proofs.acting.cars_read.Goals as goal

pub returns : goal.returns
returns g c = words.cars_read _ _
