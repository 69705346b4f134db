use Rattle.pipe_laws.proofs.Sessions as determined
use Rattle.pipe_laws.proofs.sessions_are_determined.Goals as goal

pub returns-clause-sessions : goal.returns-clause-sessions
returns-clause-sessions g c = determined.sessions_are_determined _ _

pub returns-clause-runs : goal.returns-clause-runs
returns-clause-runs g c = determined.pipe_runs_are_determined _ _
