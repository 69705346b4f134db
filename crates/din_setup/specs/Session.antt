-- DIN SPEC 70121:2014 9.4, session setup to session stop: what elements of these types contain, part by part.
use Rattle.std.specs.Prelude.{List, [], ◌∷◌}
use Rattle.exi_bits.specs.Lent.{items_of}
use Rattle.exi_documents.specs.Trees.{Ordinal, Number, Bytes}
use Rattle.exi_schema.specs.declared.tables.AttributeOf.{AttributeOf}
use Rattle.din_parts.specs.Contents.{Given, perhaps_given, Part, Of, one, perhaps, mapped}
use Rattle.din_parts.specs.Particles.{may}
use Rattle.din_parts.specs.Texts.{text_value}
use Rattle.din_schema.specs.declared.names.TheConstants.{EVCCID, RESPONSE_CODE, EVSEID, DATE_TIME_NOW, ID, GEN_CHALLENGE, EVSE_PROCESSING}
use Rattle.din_schema.specs.declared.kinds.TheConstants.{TEXT64_KIND}
use Rattle.din_parts.specs.Codes.{response_code_ordinal, evse_processing_ordinal}
use Rattle.din_setup.specs.declared.session.SessionSetupReq.{SessionSetupReq}
use Rattle.din_setup.specs.declared.session.SessionSetupRes.{SessionSetupRes}
use Rattle.din_setup.specs.declared.session.ContractAuthenticationReq.{ContractAuthenticationReq}
use Rattle.din_setup.specs.declared.session.ContractAuthenticationRes.{ContractAuthenticationRes}
use Rattle.din_setup.specs.declared.session.SessionStopRes.{SessionStopRes}

abbrev pub session_setup_req_parts : SessionSetupReq → List Part
session_setup_req_parts v =
    one EVCCID (Of (Bytes (items_of v.evccid.span)))
    ∷ []

abbrev pub session_setup_res_parts : SessionSetupRes → List Part
session_setup_res_parts v =
    one RESPONSE_CODE (Of (Ordinal (response_code_ordinal v.response_code)))
    ∷ one EVSEID (Of (Bytes (items_of v.evseid.span)))
    ∷ perhaps DATE_TIME_NOW (mapped (λ x. Of (Number x)) v.date_time_now)
    ∷ []

abbrev pub contract_authentication_req_attributes : List AttributeOf
contract_authentication_req_attributes = may ID TEXT64_KIND ∷ []

abbrev pub contract_authentication_req_given : ContractAuthenticationReq → List Given
contract_authentication_req_given v =
    perhaps_given ID (mapped (λ x. text_value x) v.id)
    ∷ []

abbrev pub contract_authentication_req_parts : ContractAuthenticationReq → List Part
contract_authentication_req_parts v =
    perhaps GEN_CHALLENGE (mapped (λ x. Of (text_value x)) v.gen_challenge)
    ∷ []

abbrev pub contract_authentication_res_parts : ContractAuthenticationRes → List Part
contract_authentication_res_parts v =
    one RESPONSE_CODE (Of (Ordinal (response_code_ordinal v.response_code)))
    ∷ one EVSE_PROCESSING (Of (Ordinal (evse_processing_ordinal v.evse_processing)))
    ∷ []

abbrev pub session_stop_res_parts : SessionStopRes → List Part
session_stop_res_parts v =
    one RESPONSE_CODE (Of (Ordinal (response_code_ordinal v.response_code)))
    ∷ []
