-- DIN SPEC 70121:2014 9.4, session setup to session stop.
use Rattle.std.specs.Prelude.{false, List, [], ◌∷◌}
use Rattle.exi_schema.specs.Plain.{PlainKind, PlainParticle, containing, once, perhaps, at_least_one}
use Rattle.din_schema.specs.declared.names.TheConstants.{EVCCID, RESPONSE_CODE, EVSEID, DATE_TIME_NOW, SERVICE_SCOPE, SERVICE_CATEGORY, PAYMENT_OPTIONS, CHARGE_SERVICE, SERVICE_LIST, PAYMENT_OPTION, SERVICE_TAG, FREE_SERVICE, ENERGY_TRANSFER_TYPE, SERVICE_ID, SERVICE_NAME, SERVICE, SELECTED_PAYMENT_OPTION, SELECTED_SERVICE_LIST, SELECTED_SERVICE, PARAMETER_SET_ID, ID, GEN_CHALLENGE, EVSE_PROCESSING}
use Rattle.din_schema.specs.declared.kinds.TheConstants.{BOOLEAN_KIND, SHORT_KIND, LONG_KIND, UNSIGNED_SHORT_KIND, TEXT20_KIND, TEXT32_KIND, TEXT64_KIND, BINARY8_KIND, BINARY32_KIND, RESPONSE_CODE_KIND, SERVICE_CATEGORY_KIND, PAYMENT_OPTION_KIND, SUPPORTED_ENERGY_TRANSFER_TYPE_KIND, EVSE_PROCESSING_KIND, PAYMENT_OPTIONS_KIND, CHARGE_SERVICE_KIND, SERVICE_TAG_KIND, SERVICE_LIST_KIND, SERVICE_KIND, SELECTED_SERVICE_LIST_KIND, SELECTED_SERVICE_KIND}

abbrev pub session_setup_req : List PlainParticle
session_setup_req =
    once EVCCID BINARY8_KIND ∷ []

abbrev pub session_setup_res : List PlainParticle
session_setup_res =
    once RESPONSE_CODE RESPONSE_CODE_KIND ∷ once EVSEID BINARY32_KIND ∷ perhaps DATE_TIME_NOW LONG_KIND ∷ []

abbrev pub service_discovery_req : List PlainParticle
service_discovery_req =
    perhaps SERVICE_SCOPE TEXT20_KIND ∷ perhaps SERVICE_CATEGORY SERVICE_CATEGORY_KIND ∷ []

abbrev pub service_discovery_res : List PlainParticle
service_discovery_res =
    once RESPONSE_CODE RESPONSE_CODE_KIND ∷ once PAYMENT_OPTIONS PAYMENT_OPTIONS_KIND ∷ once CHARGE_SERVICE CHARGE_SERVICE_KIND
    ∷ perhaps SERVICE_LIST SERVICE_LIST_KIND ∷ []

abbrev pub payment_options : List PlainParticle
payment_options =
    at_least_one 2 PAYMENT_OPTION PAYMENT_OPTION_KIND ∷ []

abbrev pub charge_service : List PlainParticle
charge_service =
    once SERVICE_TAG SERVICE_TAG_KIND ∷ once FREE_SERVICE BOOLEAN_KIND
    ∷ once ENERGY_TRANSFER_TYPE SUPPORTED_ENERGY_TRANSFER_TYPE_KIND ∷ []

abbrev pub service_tag : List PlainParticle
service_tag =
    once SERVICE_ID UNSIGNED_SHORT_KIND ∷ perhaps SERVICE_NAME TEXT32_KIND ∷ once SERVICE_CATEGORY SERVICE_CATEGORY_KIND
    ∷ perhaps SERVICE_SCOPE TEXT20_KIND ∷ []

abbrev pub service_list : List PlainParticle
service_list =
    at_least_one 8 SERVICE SERVICE_KIND ∷ []

abbrev pub service : List PlainParticle
service =
    once SERVICE_TAG SERVICE_TAG_KIND ∷ once FREE_SERVICE BOOLEAN_KIND ∷ []

abbrev pub service_payment_selection_req : List PlainParticle
service_payment_selection_req =
    once SELECTED_PAYMENT_OPTION PAYMENT_OPTION_KIND ∷ once SELECTED_SERVICE_LIST SELECTED_SERVICE_LIST_KIND ∷ []

abbrev pub selected_service_list : List PlainParticle
selected_service_list =
    at_least_one 16 SELECTED_SERVICE SELECTED_SERVICE_KIND ∷ []

abbrev pub selected_service : List PlainParticle
selected_service =
    once SERVICE_ID UNSIGNED_SHORT_KIND ∷ perhaps PARAMETER_SET_ID SHORT_KIND ∷ []

abbrev pub service_payment_selection_res : List PlainParticle
service_payment_selection_res =
    once RESPONSE_CODE RESPONSE_CODE_KIND ∷ []

abbrev pub session_stop_res : List PlainParticle
session_stop_res =
    once RESPONSE_CODE RESPONSE_CODE_KIND ∷ []

abbrev pub contract_authentication_req : List PlainParticle
contract_authentication_req =
    perhaps GEN_CHALLENGE TEXT64_KIND ∷ []

abbrev pub contract_authentication_res : List PlainParticle
contract_authentication_res =
    once RESPONSE_CODE RESPONSE_CODE_KIND ∷ once EVSE_PROCESSING EVSE_PROCESSING_KIND ∷ []

-- ---- the kinds

abbrev pub setup : List PlainKind
setup =
    containing [] session_setup_req ∷ containing [] session_setup_res ∷ containing [] service_discovery_req
    ∷ containing [] service_discovery_res ∷ containing [] payment_options ∷ containing [] charge_service ∷ containing [] service_tag
    ∷ containing [] service_list ∷ containing [] service ∷ containing [] service_payment_selection_req
    ∷ containing [] selected_service_list ∷ containing [] selected_service ∷ containing [] service_payment_selection_res
    ∷ containing [] session_stop_res
    ∷ containing (record { name = ID; kind = TEXT64_KIND; required = false } ∷ []) contract_authentication_req
    ∷ containing [] contract_authentication_res ∷ []
