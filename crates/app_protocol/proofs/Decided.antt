-- A payload is a message or has one refusal.
use Rattle.std.proofs.Common.{◌≡◌, ℕ, List}
use Rattle.exi_documents.specs.declared.refusal.RefusalCause.{RefusalCause}
use Rattle.document_laws.proofs.Payloads.{payload_decided}
use Rattle.app_schema.specs.Declarations.{negotiation_schema}
use Rattle.app_documents.specs.Trees.{Message, tree_of}
use Rattle.app_protocol.specs.Documents.{IsApp, IsAppRefused}

pub apart : (payload : List ℕ) (m : Message) (why : RefusalCause) (bit : ℕ) → IsApp m payload → IsAppRefused payload why bit → ⊥
apart payload m why bit spelled refused = (payload_decided negotiation_schema payload).apart (tree_of m) why bit spelled.document refused

pub one_refusal : (payload : List ℕ) (why other : RefusalCause) (bit place : ℕ) → IsAppRefused payload why bit → IsAppRefused payload other place → (why ≡ other) × (bit ≡ place)
one_refusal payload why other bit place a b = (payload_decided negotiation_schema payload).one_refusal why other bit place a b
