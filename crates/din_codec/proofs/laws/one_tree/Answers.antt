use Rattle.document_laws.proofs.Payloads.{payload_decided}
use Rattle.din_schema.specs.Declarations.{schema}
use Rattle.din_message.specs.Documents.{din_tree}
use Rattle.din_codec.proofs.laws.one_tree.Goals as goal

pub returns : goal.returns
returns c payload m n a b = (payload_decided schema payload).one_tree (din_tree m) (din_tree n) a b
