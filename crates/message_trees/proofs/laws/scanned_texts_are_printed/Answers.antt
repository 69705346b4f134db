use Rattle.message_trees.proofs.Decided.{scanned_printed}
use Rattle.message_trees.proofs.laws.scanned_texts_are_printed.Goals as goal

pub returns : goal.returns
returns c dialect text payload is = scanned_printed dialect text payload is
