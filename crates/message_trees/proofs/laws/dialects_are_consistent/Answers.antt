use Rattle.message_trees.proofs.Consistency.{consistent}
use Rattle.message_trees.proofs.laws.dialects_are_consistent.Goals as goal

pub returns : goal.returns
returns c dialect = consistent dialect
