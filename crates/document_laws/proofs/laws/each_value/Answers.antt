use Rattle.document_laws.proofs.TextValues.{value_exact}
use Rattle.document_laws.proofs.laws.each_value.Goals as goal

pub returns : goal.returns
returns c d entries name few = value_exact d entries name few
