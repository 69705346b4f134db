-- ISO 15118-2:2014 8.4.3, session setup and services, and 8.4.3, details and selection of services, authorization, session stop: what elements of these types contain, part by part.
use Rattle.std.specs.Prelude.{List, [], ◌∷◌}
use Rattle.exi_bits.specs.Lent.{items_of}
use Rattle.exi_documents.specs.Trees.{Ordinal, Number, Bytes}
use Rattle.exi_schema.specs.declared.tables.AttributeOf.{AttributeOf}
use Rattle.message_parts.specs.Contents.{Given, perhaps_given, Part, Of, one, perhaps, mapped}
use Rattle.message_parts.specs.Particles.{may}
use Rattle.message_parts.specs.Texts.{text_value}
use Rattle.iso_schema.specs.declared.names.TheConstants.{EVCCID, RESPONSE_CODE, EVSEID, EVSE_TIME_STAMP, ID, GEN_CHALLENGE, EVSE_PROCESSING, CHARGING_SESSION}
use Rattle.iso_schema.specs.declared.kinds.TheConstants.{TEXT64_KIND}
use Rattle.iso_parts.specs.Codes.{response_code_ordinal, evse_processing_ordinal, charging_session_ordinal}
use Rattle.iso_setup.specs.declared.session.SessionSetupReq.{SessionSetupReq}
use Rattle.iso_setup.specs.declared.session.SessionSetupRes.{SessionSetupRes}
use Rattle.iso_setup.specs.declared.session.AuthorizationReq.{AuthorizationReq}
use Rattle.iso_setup.specs.declared.session.AuthorizationRes.{AuthorizationRes}
use Rattle.iso_setup.specs.declared.session.SessionStopReq.{SessionStopReq}
use Rattle.iso_setup.specs.declared.session.SessionStopRes.{SessionStopRes}

abbrev pub session_setup_req_parts : SessionSetupReq → List Part
session_setup_req_parts v =
    one EVCCID (Of (Bytes (items_of v.evccid.span)))
    ∷ []

abbrev pub session_setup_res_parts : SessionSetupRes → List Part
session_setup_res_parts v =
    one RESPONSE_CODE (Of (Ordinal (response_code_ordinal v.response_code)))
    ∷ one EVSEID (Of (text_value v.evseid))
    ∷ perhaps EVSE_TIME_STAMP (mapped (λ x. Of (Number x)) v.evse_time_stamp)
    ∷ []

abbrev pub authorization_req_attributes : List AttributeOf
authorization_req_attributes = may ID TEXT64_KIND ∷ []

abbrev pub authorization_req_given : AuthorizationReq → List Given
authorization_req_given v =
    perhaps_given ID (mapped (λ x. text_value x) v.id)
    ∷ []

abbrev pub authorization_req_parts : AuthorizationReq → List Part
authorization_req_parts v =
    perhaps GEN_CHALLENGE (mapped (λ x. Of (Bytes (items_of x.span))) v.gen_challenge)
    ∷ []

abbrev pub authorization_res_parts : AuthorizationRes → List Part
authorization_res_parts v =
    one RESPONSE_CODE (Of (Ordinal (response_code_ordinal v.response_code)))
    ∷ one EVSE_PROCESSING (Of (Ordinal (evse_processing_ordinal v.evse_processing)))
    ∷ []

abbrev pub session_stop_req_parts : SessionStopReq → List Part
session_stop_req_parts v =
    one CHARGING_SESSION (Of (Ordinal (charging_session_ordinal v.charging_session)))
    ∷ []

abbrev pub session_stop_res_parts : SessionStopRes → List Part
session_stop_res_parts v =
    one RESPONSE_CODE (Of (Ordinal (response_code_ordinal v.response_code)))
    ∷ []
