-- A payload has a text or a refusal, and a text has a payload or a fault.
use Rattle.std.proofs.Common.{◌≡◌, ℕ, List, reverse, subst, inl, inr}
use Rattle.exi_documents.specs.declared.refusal.RefusalCause.{RefusalCause}
use Rattle.exi_documents.specs.Trees.{Tree, document_events}
use Rattle.document_laws.proofs.Payloads.{payload_decided}
use Rattle.tree_text.specs.TreeText.{IsTreeText}
use Rattle.tree_text.proofs.OneText.{one_tree_text}
use Rattle.tree_text.proofs.Sayings.{encoded_said}
use Rattle.message_dialects.specs.Dialects.{declarations}
use Rattle.message_dialects.specs.declared.dialect.MessageDialect.{MessageDialect}
use Rattle.message_trees.specs.Texts.{IsPrinted, IsRefusedIn, IsScanned, IsUnscanned}
use Rattle.message_trees.proofs.Consistency.{consistent}

pub apart : (dialect : MessageDialect) (payload text : List ℕ) (why : RefusalCause) (bit : ℕ) → IsPrinted dialect payload text → IsRefusedIn dialect payload why bit → ⊥
apart dialect payload text why bit is refused =
    (payload_decided (declarations dialect) payload).apart is.tree why bit is.document refused

pub one_refusal : (dialect : MessageDialect) (payload : List ℕ) (why other : RefusalCause) (bit place : ℕ) →
    IsRefusedIn dialect payload why bit → IsRefusedIn dialect payload other place → (why ≡ other) × (bit ≡ place)
one_refusal dialect payload why other bit place a b =
    (payload_decided (declarations dialect) payload).one_refusal why other bit place a b

pub one_text : (dialect : MessageDialect) (payload a b : List ℕ) → IsPrinted dialect payload a → IsPrinted dialect payload b → a ≡ b
one_text dialect payload a b is also =
    let s = declarations dialect in
    let same = (payload_decided s payload).one_tree is.tree also.tree is.document also.document in
    one_tree_text s also.tree a b (subst (λ (t : Tree). IsTreeText s t a) same is.written) also.written

pub scanned_apart : (dialect : MessageDialect) (text payload : List ℕ) (place : ℕ) → IsScanned dialect text payload → IsUnscanned dialect text place → ⊥
scanned_apart dialect text payload place is (inl fault) =
    let s = declarations dialect in
    let e = is.encoding in
    fault.0 (reverse (document_events e.number is.tree), encoded_said s (consistent dialect) e.number is.tree text e.bits is.written e.spelled)
scanned_apart dialect text payload place is (inr unencoded) = unencoded.1 is.tree payload is.written is.encoding is.few

pub scanned_printed : (dialect : MessageDialect) (text payload : List ℕ) → IsScanned dialect text payload → IsPrinted dialect payload text
scanned_printed dialect text payload is =
    record { tree = is.tree; message = is.message; document = is.document; written = is.written }
