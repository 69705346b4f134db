use Rattle.applied_causes.proofs.Words.{runs_apply_words}
use Rattle.applied_causes.proofs.applied_words_are_causes.Goals as goal

pub returns : goal.returns
returns g c = runs_apply_words _
