use Rattle.kind_laws.proofs.Encoded.{encoded}
use Rattle.kind_laws.proofs.laws.each_tree_is_encoded.Goals as goal

pub returns : goal.returns
returns c = encoded
