use Rattle.document_laws.proofs.Payloads.{payload_decided}
use Rattle.iso_schema.specs.Declarations.{schema}
use Rattle.iso_message.specs.Documents.{iso_tree}
use Rattle.iso_codec.proofs.laws.one_tree.Goals as goal

pub returns : goal.returns
returns c payload m n a b = (payload_decided schema payload).one_tree (iso_tree m) (iso_tree n) a b
