use Rattle.tree_text.proofs.OneText.{one_tree_text}
use Rattle.tree_text.proofs.laws.one_text.Goals as goal

pub returns : goal.returns
returns c s tree a b p q = one_tree_text s tree a b p q
