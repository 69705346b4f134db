use Rattle.pair_words.proofs.Requests as requests
use Rattle.pair_words.proofs.requests_conform.Goals as goal

pub returns : goal.returns
returns c = requests.requests_conform
