use Rattle.pair_words.proofs.Timed as timed
use Rattle.pair_words.proofs.sessions_are_short.Goals as goal

pub returns-clause-few : goal.returns-clause-few
returns-clause-few c = timed.exchanges_are_few

pub returns-clause-short : goal.returns-clause-short
returns-clause-short c = timed.sessions_are_short
