-- ISO 15118-2:2014, 8.2: an encoding spells its message, which is the one that its payload has.
use Rattle.std.proofs.Common.{◌≡◌, ℕ, List, sym, subst}
use Rattle.exi_documents.specs.Documents.{IsDocument}
use Rattle.document_laws.proofs.Encodings.{encoding_spelled}
use Rattle.document_laws.proofs.Payloads.{payload_decided}
use Rattle.app_schema.specs.Declarations.{negotiation_schema}
use Rattle.app_documents.specs.Trees.{Offered, Message, Request, Response, IsMessage, tree_of}
use Rattle.app_documents.proofs.Fits.{of_message}
use Rattle.app_documents.proofs.OneMessage.{one_message}
use Rattle.app_protocol.specs.Documents.{IsApp, IsAppEncoding}
use Rattle.site_codecs.specs.Negotiating.{IsResponse}

pub spelled : (m : Message) (payload : List ℕ) → IsAppEncoding m payload → IsApp m payload
spelled m payload e =
    let document : IsDocument negotiation_schema (tree_of m) payload = encoding_spelled negotiation_schema (tree_of m) payload e in
    let own = of_message document.number (tree_of m) document.bits document.spelled in
    record { message = subst IsMessage (sym (one_message m own.0 own.2)) own.1; document = document }

same_message : (payload : List ℕ) (m n : Message) → IsApp m payload → IsApp n payload → m ≡ n
same_message payload m n a b =
    one_message m n ((payload_decided negotiation_schema payload).one_tree (tree_of m) (tree_of n) a.document b.document)

pub same_request : (payload : List ℕ) (ps qs : List Offered) → IsApp (Request ps) payload → IsApp (Request qs) payload → ps ≡ qs
same_request payload ps qs a b = let same : Request ps ≡ Request qs = same_message payload (Request ps) (Request qs) a b in cc

pub one_side : (payload : List ℕ) (ps : List Offered) → IsApp (Request ps) payload → IsResponse payload → ⊥
one_side payload ps a r =
    let same : Request ps ≡ Response r.code r.schema = same_message payload (Request ps) (Response r.code r.schema) a r.spelled in absurd cc
