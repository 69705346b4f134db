use Rattle.document_laws.proofs.OneTree.{prefix_free}
use Rattle.document_laws.proofs.laws.prefix_free.Goals as goal

pub returns : goal.returns
returns c s = prefix_free s
