use Rattle.read_sessions.proofs.Streams.{sessions_are_read}
use Rattle.read_sessions.proofs.sessions_are_read.Goals as goal

pub returns : goal.returns
returns g c = sessions_are_read _
