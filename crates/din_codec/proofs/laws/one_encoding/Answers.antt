use Rattle.std.proofs.Common.{subst, sym}
use Rattle.exi_documents.specs.Documents.{IsEncoding}
use Rattle.exi_documents.specs.Trees.{Tree}
use Rattle.document_laws.proofs.Encodings as encodings
use Rattle.din_schema.specs.Declarations.{schema}
use Rattle.din_message.specs.Documents.{din_tree}
use Rattle.din_codec.proofs.laws.one_encoding.Goals as goal

pub returns : goal.returns
returns c m n payload other bytes more same a b =
    encodings.one_encoding schema (din_tree m) payload other bytes more a (subst (λ (t : Tree). IsEncoding schema t other) (sym same) b)
