use Rattle.evcc_machine.proofs.Onward.{word_lessens}
use Rattle.evcc_machine.proofs.law.law_of_words.Goals as goal

pub returns : goal.returns
returns c = word_lessens
