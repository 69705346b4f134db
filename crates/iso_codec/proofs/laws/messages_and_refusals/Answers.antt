use Rattle.document_laws.proofs.Payloads.{payload_decided}
use Rattle.iso_schema.specs.Declarations.{schema}
use Rattle.iso_message.specs.Documents.{iso_tree}
use Rattle.iso_codec.proofs.laws.messages_and_refusals.Goals as goal

pub returns-clause-apart : goal.returns-clause-apart
returns-clause-apart c payload m why bit document refused = (payload_decided schema payload).apart (iso_tree m) why bit document refused

pub returns-clause-one_refusal : goal.returns-clause-one_refusal
returns-clause-one_refusal c payload why other bit place a b = (payload_decided schema payload).one_refusal why other bit place a b
