use Rattle.document_laws.proofs.Encodings.{encoding_spelled}
use Rattle.iso_schema.specs.Declarations.{schema}
use Rattle.iso_message.specs.Documents.{iso_tree}
use Rattle.iso_codec.proofs.laws.encodings_are_read.Goals as goal

pub returns : goal.returns
returns c m payload encoding = encoding_spelled schema (iso_tree m) payload encoding
