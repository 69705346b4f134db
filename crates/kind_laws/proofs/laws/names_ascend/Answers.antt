use Rattle.exi_documents.specs.Values.{IsValue}
use Rattle.kind_laws.proofs.Ascending.{tree_ascends, groups_ascend}
use Rattle.kind_laws.proofs.laws.names_ascend.Goals as goal

pub returns-clause-attributes : goal.returns-clause-attributes
returns-clause-attributes c s tree ordered held = tree_ascends IsValue s ordered tree held

pub returns-clause-groups : goal.returns-clause-groups
returns-clause-groups c s ordered = groups_ascend s ordered
