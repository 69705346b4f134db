use Rattle.pair_words.proofs.Orders as orders
use Rattle.pair_words.proofs.sessions_open.Goals as goal

pub returns : goal.returns
returns c = orders.they_open
