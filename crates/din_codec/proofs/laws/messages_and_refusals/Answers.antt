use Rattle.document_laws.proofs.Payloads.{payload_decided}
use Rattle.din_schema.specs.Declarations.{schema}
use Rattle.din_message.specs.Documents.{din_tree}
use Rattle.din_codec.proofs.laws.messages_and_refusals.Goals as goal

pub returns-clause-apart : goal.returns-clause-apart
returns-clause-apart c payload m why bit document refused = (payload_decided schema payload).apart (din_tree m) why bit document refused

pub returns-clause-one_refusal : goal.returns-clause-one_refusal
returns-clause-one_refusal c payload why other bit place a b = (payload_decided schema payload).one_refusal why other bit place a b
