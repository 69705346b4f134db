use Rattle.read_runs.proofs.Facts.{facts_are_read}
use Rattle.read_runs.proofs.facts_are_read.Goals as goal

pub returns : goal.returns
returns c = facts_are_read
