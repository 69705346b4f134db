use Rattle.exi_events.proofs.Words.{no_bits}
use Rattle.exi_events.proofs.word.BitWord.new.Goals as goal

pub returns : goal.returns
returns c = no_bits
