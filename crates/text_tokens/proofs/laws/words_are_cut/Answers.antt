use Rattle.text_tokens.proofs.Splits.{cut_spaced, spaced_cut}
use Rattle.text_tokens.proofs.laws.words_are_cut.Goals as goal

pub returns : goal.returns
returns c = record { cut = cut_spaced; joined = spaced_cut }
