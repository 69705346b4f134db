use Rattle.read_streams.proofs.Keeping.{streams_are_read}
use Rattle.read_streams.proofs.streams_are_read.Goals as goal

pub returns : goal.returns
returns g c = streams_are_read _
