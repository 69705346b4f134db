-- The encoding of a text of the negotiation is that of a message, and a text at fault has none.
use Rattle.std.proofs.Common.{ℕ, ◌≤◌, List, length, reverse, ap, subst, ◌⊎◌, inl, inr, arith}
use Rattle.exi_documents.specs.Documents.{IsEncoding}
use Rattle.exi_documents.specs.Trees.{Tree, document_events}
use Rattle.exi_documents.specs.Values.{WritesValue}
use Rattle.document_laws.proofs.Encodings.{encoding_spelled, document_once}
use Rattle.document_laws.proofs.Written.{value_once}
use Rattle.value_text.specs.declared.fault.ScanFault.{ScanFault}
use Rattle.value_text.specs.declared.fault.ScanFault.TheVariants.{Place, Memory}
use Rattle.dialect_text.specs.Dialect.{IsFault}
use Rattle.tree_text.specs.TreeText.{IsTreeText}
use Rattle.tree_text.specs.Scans.{IsEncodedText, IsUnencoded, IsScanFault}
use Rattle.tree_text.proofs.Sayings.{encoded_said}
use Rattle.app_schema.specs.Declarations.{negotiation_schema}
use Rattle.app_documents.specs.Trees.{Message, IsMessage, tree_of, number_of}
use Rattle.app_documents.proofs.Encoded.{message_encoded}
use Rattle.app_documents.proofs.Fits.{of_message}
use Rattle.app_protocol.specs.Documents.{IsAppEncoding}
use Rattle.app_protocol.specs.Scanning.{IsAppScanned, IsAppUnscanned, IsAppScanFault}
use Rattle.app_protocol.proofs.Consistency.{is_consistent_negotiation}
use Rattle.app_protocol.proofs.Encodings.{encoding_long, read_back}

pub message_scanned : (text payload : List ℕ) → IsEncodedText negotiation_schema text payload → IsAppScanned text payload
message_scanned text payload scanned =
    let document = encoding_spelled negotiation_schema scanned.1.0 payload scanned.1.2 in
    let m = of_message document.number scanned.1.0 document.bits document.spelled in
    let encoding : IsAppEncoding m.0 payload = subst (λ (t : Tree). IsEncoding negotiation_schema t payload) m.2 scanned.1.2 in
    record {
      message = m.0;
      written = subst (λ (t : Tree). IsTreeText negotiation_schema t text) m.2 scanned.1.1;
      encoding = encoding;
      spelled = read_back m.0 payload m.1 encoding;
    }

pub scan_fault_told : (text : List ℕ) (fault : ScanFault) → IsScanFault negotiation_schema text fault → IsAppScanFault text fault
scan_fault_told text (Place place) fault = fault
scan_fault_told text Memory fault = tt {0}

-- ---- a text at fault has no payload

few_bytes : (m : Message) (payload : List ℕ) → IsMessage m → IsAppEncoding m payload → length payload ≤ 65536
few_bytes m payload is e =
    let w = message_encoded m is in
    let same = (document_once WritesValue value_once negotiation_schema e.number (number_of m) (tree_of m) e.bits w.0 e.spelled w.1).1 in
    let few = w.2 in
    omega (arith, encoding_long negotiation_schema (tree_of m) payload e, few, ap length same, e.few)

none_there : (tree : Tree) (text payload : List ℕ) (place : ℕ) → IsTreeText negotiation_schema tree text → IsEncoding negotiation_schema tree payload → length payload ≤ 65536 →
    IsFault negotiation_schema text place ⊎ IsUnencoded negotiation_schema text place → ⊥
none_there tree text payload place written e few (inl fault) =
    fault.0 (
      reverse (document_events e.number tree),
      encoded_said negotiation_schema is_consistent_negotiation e.number tree text e.bits written e.spelled,
    )
none_there tree text payload place written e few (inr unencoded) = unencoded.1 tree payload written e few

pub scanned_apart : (text payload : List ℕ) (place : ℕ) → IsAppScanned text payload → IsAppUnscanned text place → ⊥
scanned_apart text payload place scanned fault =
    none_there (tree_of scanned.message) text payload place scanned.written scanned.encoding
    (few_bytes scanned.message payload scanned.spelled.message scanned.encoding) fault
