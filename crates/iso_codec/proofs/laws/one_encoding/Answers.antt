use Rattle.std.proofs.Common.{subst, sym}
use Rattle.exi_documents.specs.Documents.{IsEncoding}
use Rattle.exi_documents.specs.Trees.{Tree}
use Rattle.document_laws.proofs.Encodings as encodings
use Rattle.iso_schema.specs.Declarations.{schema}
use Rattle.iso_message.specs.Documents.{iso_tree}
use Rattle.iso_codec.proofs.laws.one_encoding.Goals as goal

pub returns : goal.returns
returns c m n payload other bytes more same a b =
    encodings.one_encoding schema (iso_tree m) payload other bytes more a (subst (λ (t : Tree). IsEncoding schema t other) (sym same) b)
