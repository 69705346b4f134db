use Rattle.document_sizes.proofs.Parts.{holding_sum, plain_sum, root_sum}
use Rattle.document_sizes.proofs.laws.parts_add_up.Goals as goal

pub returns-clause-held : goal.returns-clause-held
returns-clause-held c w gs parts = holding_sum w gs parts

pub returns-clause-plain : goal.returns-clause-plain
returns-clause-plain c w parts = plain_sum w parts

pub returns-clause-root : goal.returns-clause-root
returns-clause-root c w name inside = root_sum w name inside
