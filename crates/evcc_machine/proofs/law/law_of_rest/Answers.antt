use Rattle.evcc_machine.proofs.Quiet.{reads, stays}
use Rattle.evcc_machine.proofs.law.law_of_rest.Goals as goal

pub returns-clause-read : goal.returns-clause-read
returns-clause-read c = reads

pub returns-clause-same : goal.returns-clause-same
returns-clause-same c = stays
