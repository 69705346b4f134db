use Rattle.message_trees.proofs.Decided.{scanned_apart}
use Rattle.message_trees.proofs.laws.payloads_and_faults.Goals as goal

pub returns : goal.returns
returns c dialect text payload place is fault = scanned_apart dialect text payload place is fault
