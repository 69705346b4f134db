use Rattle.fitting_parts.proofs.Few.{few_texts}
use Rattle.fitting_parts.proofs.laws.trees_have_few_texts.Goals as goal

pub returns : goal.returns
returns c s tree is fits = few_texts s tree is fits
