-- ISO 15118-2:2014, section 8.2: how the messages of the negotiation are judged.
use Rattle.std.proofs.Common.{◌≡◌, ◌↔◌, ℕ, Bool, List, Option, Some, None, refl, sym, ◌∙◌, ap, subst}
use Rattle.charge_world.specs.declared.offer.Dialect.{Dialect}
use Rattle.exi_documents.specs.declared.refusal.RefusalCause.{RefusalCause}
use Rattle.app_documents.specs.Trees.{Offered, Request, Response}
use Rattle.app_protocol.specs.declared.message.AppRes.{AppRes}
use Rattle.app_protocol.specs.Documents.{IsApp, IsAppRefused}
use Rattle.app_protocol.specs.Negotiation as rule
use Rattle.app_protocol.proofs.Decided.{apart}
use Rattle.v2gtp_frames.specs.Frames.{IsPayload}
use Rattle.post_spec.specs.Codecs.{Judged, Negotiated, Asked, WrongSide, Refused}
use Rattle.post_spec.specs.Words.{Payload}
use Rattle.site_codec_laws.specs.Negotiating.{Negotiates}
use Rattle.site_codec_laws.proofs.Lawful.{judges_all}
use Rattle.site_codec_laws.proofs.OneAnswer.{one_answer}
use Rattle.audit_streams.specs.declared.reader.ToldWord.TheVariants as told
use Rattle.audit_streams.specs.Words.{IsFirst}
use Rattle.told_codecs.specs.Responses.{is_positive, Responds}
use Rattle.told_codecs.specs.Laws.{same_message, same_code}

same_request : (payload : List ℕ) (ps qs : List Offered) → IsApp (Request ps) payload → IsApp (Request qs) payload → ps ≡ qs
same_request payload ps qs a b = let same : Request ps ≡ Request qs = same_message payload (Request ps) (Request qs) a b in cc

one_side : (payload : List ℕ) (ps : List Offered) (code : ℕ) (schema : Option ℕ) → IsApp (Request ps) payload → IsApp (Response code schema) payload → ⊥
one_side payload ps code schema a b =
    let same : Request ps ≡ Response code schema = same_message payload (Request ps) (Response code schema) a b in absurd cc

-- ---- a request

judged_so : (offers : List Dialect) (payload : List ℕ) (ps : List Offered) (answer : AppRes) (chosen : Option Dialect) → IsApp (Request ps) payload
    → rule.Negotiates offers ps answer chosen → (judged : Judged) → Negotiates offers payload judged → IsFirst (Negotiates offers payload) (told.Negotiated chosen)
judged_so offers payload ps answer chosen spelled by_rule (Negotiated c r) n =
    let is : c ≡ chosen =
    (one_answer offers n.protocols n.answer answer c chosen n.negotiated
    (subst (λ (qs : List Offered). rule.Negotiates offers qs answer chosen) (same_request payload ps n.protocols spelled n.spelled) by_rule)).chosen in
    (Negotiated c r, n, (r, ap (λ (o : Option Dialect). Payload (Negotiated o r)) is))
judged_so offers payload ps answer chosen spelled by_rule (Asked request) n = absurd n
judged_so offers payload ps answer chosen spelled by_rule WrongSide n = absurd (one_side payload ps n.code n.schema spelled n.spelled)
judged_so offers payload ps answer chosen spelled by_rule Refused n = absurd (apart payload (Request ps) n.why n.bit spelled n.refused)

pub negotiated : (offers : List Dialect) (payload : List ℕ) (ps : List Offered) (answer : AppRes) (chosen : Option Dialect)
    → rule.Negotiates offers ps answer chosen → IsApp (Request ps) payload → IsFirst (Negotiates offers payload) (told.Negotiated chosen)
negotiated offers payload ps answer chosen by_rule spelled =
    let each = judges_all.negotiates offers payload in
    judged_so offers payload ps answer chosen spelled by_rule each.0 each.1

pub first_response : (offers : List Dialect) (payload : List ℕ) (code : ℕ) (schema : Option ℕ) → IsApp (Response code schema) payload
    → IsFirst (Negotiates offers payload) told.WrongSide
first_response offers payload code schema spelled = (WrongSide, record { code = code; schema = schema; spelled = spelled }, refl)

pub first_refused : (offers : List Dialect) (payload : List ℕ) (why : RefusalCause) (bit : ℕ) → IsAppRefused payload why bit
    → IsFirst (Negotiates offers payload) told.Refused
first_refused offers payload why bit refused = (Refused, record { why = why; bit = bit; refused = refused }, refl)

-- ---- a response

some_is : (a b : Bool) → Some a ≡ Some b → a ≡ b
some_is a b same = cc

pub responded : (payload : List ℕ) (code : ℕ) (schema : Option ℕ) (found : Bool) → IsPayload payload → IsApp (Response code schema) payload → found ≡ is_positive code
    → (positive : Bool) → Responds payload positive ↔ (Some found ≡ Some positive)
responded payload code schema found short spelled is positive = (
  λ r. ap (λ (b : Bool). Some b) (is ∙ ap is_positive (same_code payload code r.code schema r.schema spelled r.spelled) ∙ sym r.positive_is),
  λ same. record { short = short; code = code; schema = schema; spelled = spelled; positive_is = sym (some_is found positive same) ∙ is },
)

none_is : (b : Bool) → None ≡ Some b → ⊥
none_is b same = absurd cc

pub no_response : (payload : List ℕ) → ((code : ℕ) (schema : Option ℕ) → IsApp (Response code schema) payload → ⊥)
    → (positive : Bool) → Responds payload positive ↔ (None ≡ Some positive)
no_response payload isnt positive = (λ r. absurd (isnt r.code r.schema r.spelled), λ same. absurd (none_is positive same))

pub of_request : (payload : List ℕ) (ps : List Offered) → IsApp (Request ps) payload → (positive : Bool) → Responds payload positive ↔ (None ≡ Some positive)
of_request payload ps spelled = no_response payload (λ code schema response. one_side payload ps code schema spelled response)

pub of_refused : (payload : List ℕ) (why : RefusalCause) (bit : ℕ) → IsAppRefused payload why bit → (positive : Bool) → Responds payload positive ↔ (None ≡ Some positive)
of_refused payload why bit refused = no_response payload (λ code schema response. apart payload (Response code schema) why bit response refused)
