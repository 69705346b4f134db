use Rattle.secc_machine.proofs.Words.{acts}
use Rattle.secc_machine.proofs.law.law_of_words.Goals as goal

pub returns : goal.returns
returns c = acts
