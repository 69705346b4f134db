use Rattle.message_trees.proofs.Decided.{apart, one_refusal, one_text}
use Rattle.message_trees.proofs.laws.texts_and_refusals.Goals as goal

pub returns-clause-apart : goal.returns-clause-apart
returns-clause-apart c dialect payload text why bit is refused = apart dialect payload text why bit is refused

pub returns-clause-one_text : goal.returns-clause-one_text
returns-clause-one_text c dialect payload a b is also = one_text dialect payload a b is also

pub returns-clause-one_refusal : goal.returns-clause-one_refusal
returns-clause-one_refusal c dialect payload why other bit place is also = one_refusal dialect payload why other bit place is also
