use Rattle.served_sessions.proofs.Served.{runs_serve, whole_runs_serve}
use Rattle.served_sessions.proofs.serves_conforming_sessions.Goals as goal

pub returns-clause-runs : goal.returns-clause-runs
returns-clause-runs g c = runs_serve _

pub returns-clause-whole : goal.returns-clause-whole
returns-clause-whole g c = whole_runs_serve _
