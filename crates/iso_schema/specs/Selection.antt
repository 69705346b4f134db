-- ISO 15118-2:2014 8.4.3, details and selection of services, authorization, session stop.
use Rattle.std.specs.Prelude.{true, false, List, [], ◌∷◌}
use Rattle.exi_schema.specs.Plain.{PlainKind, PlainParticle, containing, one_of, once, perhaps, up_to, at_least_one, choice}
use Rattle.iso_schema.specs.declared.names.TheConstants.{RESPONSE_CODE, SERVICE_ID, SERVICE_PARAMETER_LIST, PARAMETER_SET, PARAMETER_SET_ID, PARAMETER, NAME, BOOL_VALUE, BYTE_VALUE, SHORT_VALUE, INT_VALUE, PHYSICAL_VALUE, STRING_VALUE, SELECTED_PAYMENT_OPTION, SELECTED_SERVICE_LIST, SELECTED_SERVICE, ID, GEN_CHALLENGE, EVSE_PROCESSING, CHARGING_SESSION}
use Rattle.iso_schema.specs.declared.kinds.TheConstants.{BOOLEAN_KIND, BYTE_KIND, SHORT_KIND, INT_KIND, UNSIGNED_SHORT_KIND, TEXT64_KIND, BINARY16_KIND, RESPONSE_CODE_KIND, PAYMENT_OPTION_KIND, EVSE_PROCESSING_KIND, CHARGING_SESSION_KIND, PHYSICAL_VALUE_KIND, SERVICE_PARAMETER_LIST_KIND, PARAMETER_SET_KIND, PARAMETER_KIND, SELECTED_SERVICE_LIST_KIND, SELECTED_SERVICE_KIND}

abbrev pub service_detail_req : List PlainParticle
service_detail_req =
    once SERVICE_ID UNSIGNED_SHORT_KIND ∷ []

abbrev pub service_detail_res : List PlainParticle
service_detail_res =
    once RESPONSE_CODE RESPONSE_CODE_KIND ∷ once SERVICE_ID UNSIGNED_SHORT_KIND
    ∷ perhaps SERVICE_PARAMETER_LIST SERVICE_PARAMETER_LIST_KIND ∷ []

abbrev pub service_parameter_list : List PlainParticle
service_parameter_list =
    at_least_one 16 PARAMETER_SET PARAMETER_SET_KIND ∷ []

abbrev pub parameter_set : List PlainParticle
parameter_set =
    once PARAMETER_SET_ID SHORT_KIND ∷ up_to 16 PARAMETER PARAMETER_KIND ∷ []

abbrev pub parameter : List PlainParticle
parameter =
    choice (one_of BOOL_VALUE BOOLEAN_KIND ∷ one_of BYTE_VALUE BYTE_KIND ∷ one_of SHORT_VALUE SHORT_KIND ∷ one_of INT_VALUE INT_KIND ∷ one_of PHYSICAL_VALUE PHYSICAL_VALUE_KIND ∷ one_of STRING_VALUE TEXT64_KIND ∷ [])
    ∷ []

abbrev pub payment_service_selection_req : List PlainParticle
payment_service_selection_req =
    once SELECTED_PAYMENT_OPTION PAYMENT_OPTION_KIND ∷ once SELECTED_SERVICE_LIST SELECTED_SERVICE_LIST_KIND ∷ []

abbrev pub selected_service_list : List PlainParticle
selected_service_list =
    up_to 16 SELECTED_SERVICE SELECTED_SERVICE_KIND ∷ []

abbrev pub selected_service : List PlainParticle
selected_service =
    once SERVICE_ID UNSIGNED_SHORT_KIND ∷ perhaps PARAMETER_SET_ID SHORT_KIND ∷ []

abbrev pub payment_service_selection_res : List PlainParticle
payment_service_selection_res =
    once RESPONSE_CODE RESPONSE_CODE_KIND ∷ []

abbrev pub authorization_req : List PlainParticle
authorization_req =
    perhaps GEN_CHALLENGE BINARY16_KIND ∷ []

abbrev pub authorization_res : List PlainParticle
authorization_res =
    once RESPONSE_CODE RESPONSE_CODE_KIND ∷ once EVSE_PROCESSING EVSE_PROCESSING_KIND ∷ []

abbrev pub session_stop_req : List PlainParticle
session_stop_req =
    once CHARGING_SESSION CHARGING_SESSION_KIND ∷ []

abbrev pub session_stop_res : List PlainParticle
session_stop_res =
    once RESPONSE_CODE RESPONSE_CODE_KIND ∷ []

-- ---- the kinds

abbrev pub selection : List PlainKind
selection =
    containing [] service_detail_req ∷ containing [] service_detail_res ∷ containing [] service_parameter_list
    ∷ containing [] parameter_set ∷ containing (record { name = NAME; kind = TEXT64_KIND; required = true } ∷ []) parameter
    ∷ containing [] payment_service_selection_req ∷ containing [] selected_service_list ∷ containing [] selected_service
    ∷ containing [] payment_service_selection_res
    ∷ containing (record { name = ID; kind = TEXT64_KIND; required = false } ∷ []) authorization_req
    ∷ containing [] authorization_res ∷ containing [] session_stop_req ∷ containing [] session_stop_res ∷ []
