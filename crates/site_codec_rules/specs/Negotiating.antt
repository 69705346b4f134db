-- ISO 15118-2:2014, section 8.2: what the first payload of a session is, at a post that offers these dialects.
use Rattle.std.specs.Prelude.{ℕ, List, Option}
use Rattle.charge_world.specs.declared.offer.Dialect.{Dialect}
use Rattle.exi_documents.specs.declared.refusal.RefusalCause.{RefusalCause}
use Rattle.document_laws.specs.Laws.{AreBytes}
use Rattle.app_documents.specs.Trees.{Offered, Request, Response}
use Rattle.app_protocol.specs.declared.message.AppMessage.TheVariants.{Res}
use Rattle.app_protocol.specs.declared.message.AppRes.{AppRes}
use Rattle.app_protocol.specs.Documents.{IsApp, IsAppEncoding, IsAppRefused}
use Rattle.app_protocol.specs.Messages.{message_of}
use Rattle.app_protocol.specs.Negotiation as rule
use Rattle.post_spec.specs.Codecs.{Judged, Negotiated, Asked, WrongSide, Refused}

-- a request, the dialect that is chosen for it, and the encoding of its response
pub record IsNegotiated (offers : List Dialect) (payload : List ℕ) (chosen : Option Dialect) (response : List ℕ) : Type 0 where
  pub protocols : List Offered
  pub answer : AppRes
  pub spelled : IsApp (Request protocols) payload
  pub negotiated : rule.Negotiates offers protocols answer chosen
  pub bytes : AreBytes response
  pub encoded : IsAppEncoding (message_of (Res answer)) response

-- a response, which a car never sends
pub record IsResponse (payload : List ℕ) : Type 0 where
  pub code : ℕ
  pub schema : Option ℕ
  pub spelled : IsApp (Response code schema) payload

-- no message of the negotiation
pub record IsNone (payload : List ℕ) : Type 0 where
  pub why : RefusalCause
  pub bit : ℕ
  pub refused : IsAppRefused payload why bit

abbrev pub Negotiates : List Dialect → List ℕ → Judged → Type 0
Negotiates offers payload (Negotiated chosen response) = IsNegotiated offers payload chosen response
Negotiates offers payload (Asked request) = ⊥
Negotiates offers payload WrongSide = IsResponse payload
Negotiates offers payload Refused = IsNone payload
