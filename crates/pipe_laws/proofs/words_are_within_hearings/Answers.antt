use Rattle.pipe_laws.proofs.Words as words
use Rattle.pipe_laws.proofs.words_are_within_hearings.Goals as goal

pub returns-clause-words : goal.returns-clause-words
returns-clause-words g c = words.one_word_a_hearing _ _

pub returns-clause-hearings : goal.returns-clause-hearings
returns-clause-hearings g c = words.hears_within_turns _ _

pub returns-clause-exchanges : goal.returns-clause-exchanges
returns-clause-exchanges g c = words.exchanges_are_within_turns _ _
