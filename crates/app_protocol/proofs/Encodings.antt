-- A message has one encoding, and that of a response is short.
use Rattle.std.proofs.Common.{◌≡◌, ℕ, ◌+◌, ◌*◌, ◌≤◌, false, List, length, length-append, replicate, Option, sym, ap, ◌∙◌, arith}
use Rattle.std.proofs.lemmas.List.{length-replicate}
use Rattle.exi_spec.proofs.BitLaws.{length-bits_of}
use Rattle.exi_schema.specs.Schemas.{PlainSchema}
use Rattle.exi_documents.specs.Documents.{IsEncoding}
use Rattle.exi_documents.specs.Trees.{Tree}
use Rattle.document_laws.specs.Laws.{AreBytes}
use Rattle.document_laws.proofs.Encodings as laws
use Rattle.app_schema.specs.Declarations.{negotiation_schema}
use Rattle.app_documents.specs.Trees.{Message, Response, IsMessage, tree_of}
use Rattle.app_documents.proofs.Short.{response_short}
use Rattle.app_protocol.specs.Documents.{IsApp, IsAppEncoding, PassesBytes}

pub one_encoding : (m : Message) (payload other : List ℕ) → AreBytes payload → AreBytes other → IsAppEncoding m payload → IsAppEncoding m other → payload ≡ other
one_encoding m payload other bytes more a b = laws.one_encoding negotiation_schema (tree_of m) payload other bytes more a b

pub read_back : (m : Message) (payload : List ℕ) → IsMessage m → IsAppEncoding m payload → IsApp m payload
read_back m payload is e = record { message = is; document = laws.encoding_spelled negotiation_schema (tree_of m) payload e }

pub encoding_long : (s : PlainSchema) (tree : Tree) (payload : List ℕ) (e : IsEncoding s tree payload) → 8 * length payload ≡ length e.bits + e.pad
encoding_long s tree payload e =
    sym (length-bits_of payload) ∙ ap length e.bits_are ∙ length-append e.bits (replicate e.pad false) ∙ ap (λ (n : ℕ). length e.bits + n) (length-replicate e.pad false)

pub response_bytes : (code : ℕ) (schema : Option ℕ) (payload : List ℕ) → IsAppEncoding (Response code schema) payload → length payload ≤ 4
response_bytes code schema payload e =
    let few = response_short e.number code schema e.bits e.spelled in
    omega (arith, few, e.few, encoding_long negotiation_schema (tree_of (Response code schema)) payload e)

pub response_fits : (code : ℕ) (schema : Option ℕ) → PassesBytes (Response code schema) 4 → ⊥
response_fits code schema passes =
    let few = response_short 1 code schema passes.0 passes.1 in
    omega (arith, few, passes.2)
