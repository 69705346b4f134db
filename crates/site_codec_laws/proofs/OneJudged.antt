-- ISO 15118-2:2014 section 8.2: a first payload is judged one way.
use Rattle.std.proofs.Common.{◌≡◌, ℕ, List, Option, refl, sym, ap₂, subst}
use Rattle.charge_world.specs.declared.offer.Dialect.{Dialect}
use Rattle.document_laws.proofs.Payloads.{payload_decided}
use Rattle.app_schema.specs.Declarations.{negotiation_schema}
use Rattle.app_documents.specs.Trees.{Offered, Message, Request, Response, tree_of}
use Rattle.app_documents.proofs.OneMessage.{one_message}
use Rattle.app_protocol.specs.declared.message.AppMessage.TheVariants.{Res}
use Rattle.app_protocol.specs.declared.message.AppRes.{AppRes}
use Rattle.app_protocol.specs.Documents.{IsApp, IsAppEncoding}
use Rattle.app_protocol.specs.Messages.{message_of}
use Rattle.app_protocol.specs.Negotiation as rule
use Rattle.app_protocol.proofs.Decided.{apart}
use Rattle.app_protocol.proofs.Encodings.{one_encoding}
use Rattle.post_spec.specs.Codecs.{Judged, Negotiated, Asked, WrongSide, Refused}
use Rattle.site_codec_rules.specs.Negotiating.{IsNegotiated, IsResponse, Negotiates}
use Rattle.site_codec_laws.proofs.OneAnswer.{one_answer}

same_message : (payload : List ℕ) (m n : Message) → IsApp m payload → IsApp n payload → m ≡ n
same_message payload m n a b =
    one_message m n ((payload_decided negotiation_schema payload).one_tree (tree_of m) (tree_of n) a.document b.document)

same_request : (payload : List ℕ) (ps qs : List Offered) → IsApp (Request ps) payload → IsApp (Request qs) payload → ps ≡ qs
same_request payload ps qs a b = let same : Request ps ≡ Request qs = same_message payload (Request ps) (Request qs) a b in cc

one_side : (payload : List ℕ) (ps : List Offered) → IsApp (Request ps) payload → IsResponse payload → ⊥
one_side payload ps a r =
    let same : Request ps ≡ Response r.code r.schema = same_message payload (Request ps) (Response r.code r.schema) a r.spelled in absurd cc

one_response : (offers : List Dialect) (payload : List ℕ) (c d : Option Dialect) (r s : List ℕ)
    → IsNegotiated offers payload c r → IsNegotiated offers payload d s → Negotiated c r ≡ Negotiated d s
one_response offers payload c d r s n m =
    let same = same_request payload n.protocols m.protocols n.spelled m.spelled in
    let other : rule.Negotiates offers n.protocols m.answer d =
    subst (λ (ps : List Offered). rule.Negotiates offers ps m.answer d) (sym same) m.negotiated in
    let one = one_answer offers n.protocols n.answer m.answer c d n.negotiated other in
    let encoded : IsAppEncoding (message_of (Res n.answer)) s =
    subst (λ (x : AppRes). IsAppEncoding (message_of (Res x)) s) (sym one.answer) m.encoded in
    ap₂ (λ (x : Option Dialect) (y : List ℕ). Negotiated x y) one.chosen
    (one_encoding (message_of (Res n.answer)) r s n.bytes m.bytes n.encoded encoded)

pub one_judged : (offers : List Dialect) (payload : List ℕ) (a b : Judged) → Negotiates offers payload a → Negotiates offers payload b → a ≡ b
one_judged offers payload (Negotiated c r) (Negotiated d s) n m = one_response offers payload c d r s n m
one_judged offers payload (Negotiated c r) (Asked request) n m = absurd m
one_judged offers payload (Negotiated c r) WrongSide n m = absurd (one_side payload n.protocols n.spelled m)
one_judged offers payload (Negotiated c r) Refused n m = absurd (apart payload (Request n.protocols) m.why m.bit n.spelled m.refused)
one_judged offers payload (Asked request) b n m = absurd n
one_judged offers payload WrongSide (Negotiated d s) n m = absurd (one_side payload m.protocols m.spelled n)
one_judged offers payload WrongSide (Asked request) n m = absurd m
one_judged offers payload WrongSide WrongSide n m = refl
one_judged offers payload WrongSide Refused n m = absurd (apart payload (Response n.code n.schema) m.why m.bit n.spelled m.refused)
one_judged offers payload Refused (Negotiated d s) n m = absurd (apart payload (Request m.protocols) n.why n.bit m.spelled n.refused)
one_judged offers payload Refused (Asked request) n m = absurd m
one_judged offers payload Refused WrongSide n m = absurd (apart payload (Response m.code m.schema) n.why n.bit m.spelled n.refused)
one_judged offers payload Refused Refused n m = refl
