-- The tree of a payload of the negotiation is that of a message.
use Rattle.std.proofs.Common.{ℕ, List}
use Rattle.exi_documents.specs.Documents.{IsDocument}
use Rattle.exi_documents.specs.Trees.{Tree}
use Rattle.document_laws.proofs.Encodings.{encoding_spelled}
use Rattle.tree_text.specs.TreeText.{IsTreeText}
use Rattle.tree_text.specs.Scans.{IsEncodedText}
use Rattle.app_documents.proofs.Fits.{of_message}
use Rattle.message_dialects.specs.Dialects.{declarations}
use Rattle.message_dialects.specs.declared.dialect.MessageDialect.{MessageDialect}
use Rattle.message_dialects.specs.declared.dialect.MessageDialect.TheVariants.{App, Iso, Din}
use Rattle.message_trees.specs.Texts.{IsMessageTree, IsPrinted, IsScanned}

pub of_dialect : (dialect : MessageDialect) (tree : Tree) (payload : List ℕ) → IsDocument (declarations dialect) tree payload → IsMessageTree dialect tree
of_dialect App tree payload document =
    let m = of_message document.number tree document.bits document.spelled in (m.0, m.1, m.2)
of_dialect Iso tree payload document = tt {0}
of_dialect Din tree payload document = tt {0}

pub printed : (dialect : MessageDialect) (payload text : List ℕ) →
    (tree : Tree) × IsDocument (declarations dialect) tree payload × IsTreeText (declarations dialect) tree text → IsPrinted dialect payload text
printed dialect payload text h =
    record { tree = h.0; message = of_dialect dialect h.0 payload h.1; document = h.1; written = h.2 }

pub scanned : (dialect : MessageDialect) (text payload : List ℕ) → IsEncodedText (declarations dialect) text payload → IsScanned dialect text payload
scanned dialect text payload h =
    let document = encoding_spelled (declarations dialect) h.1.0 payload h.1.2 in
    record {
      tree = h.1.0;
      message = of_dialect dialect h.1.0 payload document;
      written = h.1.1;
      encoding = h.1.2;
      document = document;
      few = h.0;
    }
