-- ISO 15118-2:2014 section 8.2: an offer has one encoding, and the response to it is judged one way.
use Rattle.std.proofs.Common.{◌≡◌, ℕ, List, Option, refl, sym, ap, ap₂, ◌∙◌}
use Rattle.charge_world.specs.declared.offer.Dialect.{Dialect}
use Rattle.document_laws.proofs.Payloads.{payload_decided}
use Rattle.app_schema.specs.Declarations.{negotiation_schema}
use Rattle.app_documents.specs.Trees.{Message, Request, Response, tree_of}
use Rattle.app_documents.proofs.OneMessage.{one_message}
use Rattle.app_protocol.specs.Documents.{IsApp}
use Rattle.app_protocol.proofs.Decided.{apart}
use Rattle.app_protocol.proofs.Encodings.{one_encoding}
use Rattle.car_codec_rules.specs.Negotiating.{IsResponse}
use Rattle.car_spec.specs.Codecs.{Judged, Chosen, Told, WrongSide, Refused}
use Rattle.car_codec_rules.specs.Offering.{Offers, entries_of}
use Rattle.car_codec_rules.specs.Responding.{chosen_by, IsChoice, IsRequest, Responds}

pub one_offer : (dialects : List Dialect) (a b : List ℕ) → Offers dialects a → Offers dialects b → a ≡ b
one_offer dialects a b o p = one_encoding (Request (entries_of dialects)) a b o.bytes p.bytes o.encoded p.encoded

same_message : (payload : List ℕ) (m n : Message) → IsApp m payload → IsApp n payload → m ≡ n
same_message payload m n a b =
    one_message m n ((payload_decided negotiation_schema payload).one_tree (tree_of m) (tree_of n) a.document b.document)

same_code : (payload : List ℕ) (r s : IsResponse payload) → r.code ≡ s.code
same_code payload r s =
    let same : Response r.code r.schema ≡ Response s.code s.schema =
    same_message payload (Response r.code r.schema) (Response s.code s.schema) r.spelled s.spelled in cc

same_schema : (payload : List ℕ) (r s : IsResponse payload) → r.schema ≡ s.schema
same_schema payload r s =
    let same : Response r.code r.schema ≡ Response s.code s.schema =
    same_message payload (Response r.code r.schema) (Response s.code s.schema) r.spelled s.spelled in cc

one_side : (payload : List ℕ) → IsResponse payload → IsRequest payload → ⊥
one_side payload r q =
    let same : Response r.code r.schema ≡ Request q.protocols =
    same_message payload (Response r.code r.schema) (Request q.protocols) r.spelled q.spelled in absurd cc

one_choice : (dialects : List Dialect) (payload : List ℕ) (a b : Option Dialect) → IsChoice dialects payload a → IsChoice dialects payload b
    → Chosen a ≡ Chosen b
one_choice dialects payload a b c d =
    ap (λ (x : Option Dialect). Chosen x)
    (c.chosen_is ∙ ap₂ (chosen_by dialects) (same_code payload c.response d.response) (same_schema payload c.response d.response) ∙ sym d.chosen_is)

pub one_response : (dialects : List Dialect) (payload : List ℕ) (a b : Judged) → Responds dialects payload a → Responds dialects payload b → a ≡ b
one_response dialects payload (Chosen c) (Chosen d) r s = one_choice dialects payload c d r s
one_response dialects payload (Chosen c) (Told reply) r s = absurd s
one_response dialects payload (Chosen c) WrongSide r s = absurd (one_side payload r.response s)
one_response dialects payload (Chosen c) Refused r s =
    absurd (apart payload (Response r.response.code r.response.schema) s.why s.bit r.response.spelled s.refused)
one_response dialects payload (Told reply) b r s = absurd r
one_response dialects payload WrongSide (Chosen d) r s = absurd (one_side payload s.response r)
one_response dialects payload WrongSide (Told reply) r s = absurd s
one_response dialects payload WrongSide WrongSide r s = refl
one_response dialects payload WrongSide Refused r s = absurd (apart payload (Request r.protocols) s.why s.bit r.spelled s.refused)
one_response dialects payload Refused (Chosen d) r s =
    absurd (apart payload (Response s.response.code s.response.schema) r.why r.bit s.response.spelled r.refused)
one_response dialects payload Refused (Told reply) r s = absurd s
one_response dialects payload Refused WrongSide r s = absurd (apart payload (Request s.protocols) r.why r.bit s.spelled r.refused)
one_response dialects payload Refused Refused r s = refl
