use Rattle.words_by_bytes.proofs.Read.{runs_read_words}
use Rattle.words_by_bytes.proofs.words_come_by_bytes.Goals as goal

pub returns : goal.returns
returns g c = runs_read_words _
