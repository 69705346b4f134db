use Rattle.conforming_runs.proofs.Accepted.{requests_are_accepted, events_end_nothing}
use Rattle.conforming_runs.proofs.conforming_sessions_go_on.Goals as goal

pub returns-clause-requests : goal.returns-clause-requests
returns-clause-requests c = requests_are_accepted

pub returns-clause-events : goal.returns-clause-events
returns-clause-events c = events_end_nothing
