use Rattle.pair_words.proofs.Exchanges as exchanges
use Rattle.pair_words.proofs.exchanges_go_well.Goals as goal

pub returns : goal.returns
returns c = exchanges.exchanges_go_well
