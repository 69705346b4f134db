use Rattle.pair_words.proofs.Sessions as sessions
use Rattle.pair_words.proofs.sessions_end.Goals as goal

pub returns-clause-meet : goal.returns-clause-meet
returns-clause-meet c = sessions.they_meet

pub returns-clause-end : goal.returns-clause-end
returns-clause-end c = sessions.they_end
