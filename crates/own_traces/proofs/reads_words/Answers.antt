use Rattle.own_traces.proofs.Words.{tenth_passes}
use Rattle.own_traces.proofs.reads_words.Goals as goal

pub returns : goal.returns
returns g c = tenth_passes _
