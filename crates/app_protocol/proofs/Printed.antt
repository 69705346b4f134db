-- The text of a tree of the negotiation is that of a message.
use Rattle.std.proofs.Common.{ℕ, List, subst}
use Rattle.exi_documents.specs.Documents.{IsDocument}
use Rattle.exi_documents.specs.Trees.{Tree}
use Rattle.tree_text.specs.TreeText.{IsTreeText}
use Rattle.tree_text.specs.Printing.{IsFaultOf}
use Rattle.tree_text.specs.declared.fault.PrintFault.{PrintFault}
use Rattle.tree_text.specs.declared.fault.PrintFault.TheVariants.{Refused, Memory}
use Rattle.app_schema.specs.Declarations.{negotiation_schema}
use Rattle.app_documents.proofs.Fits.{of_message}
use Rattle.app_protocol.specs.Printing.{IsPrinted, IsAppFault}

pub message_printed : (payload text : List ℕ) → (tree : Tree) × IsDocument negotiation_schema tree payload × IsTreeText negotiation_schema tree text → IsPrinted payload text
message_printed payload text printed =
    let document = printed.1 in
    let m = of_message document.number printed.0 document.bits document.spelled in (
      m.0,
      record { message = m.1; document = subst (λ (t : Tree). IsDocument negotiation_schema t payload) m.2 document },
      subst (λ (t : Tree). IsTreeText negotiation_schema t text) m.2 printed.2,
    )

pub fault_told : (payload : List ℕ) (fault : PrintFault) → IsFaultOf negotiation_schema payload fault → IsAppFault payload fault
fault_told payload (Refused refusal) refused = refused
fault_told payload Memory refused = tt {0}
