use Rattle.document_laws.proofs.Encodings.{encoding_spelled}
use Rattle.din_schema.specs.Declarations.{schema}
use Rattle.din_message.specs.Documents.{din_tree}
use Rattle.din_codec.proofs.laws.encodings_are_read.Goals as goal

pub returns : goal.returns
returns c m payload encoding = encoding_spelled schema (din_tree m) payload encoding
