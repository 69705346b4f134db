-- ISO 15118-2:2014 8.4.3, session setup and services.
use Rattle.std.specs.Prelude.{List, [], ◌∷◌}
use Rattle.exi_schema.specs.Plain.{PlainKind, PlainParticle, containing, once, perhaps, up_to}
use Rattle.iso_schema.specs.declared.names.TheConstants.{EVCCID, RESPONSE_CODE, EVSEID, EVSE_TIME_STAMP, SERVICE_SCOPE, SERVICE_CATEGORY, PAYMENT_OPTION_LIST, CHARGE_SERVICE, SERVICE_LIST, PAYMENT_OPTION, SERVICE_ID, SERVICE_NAME, FREE_SERVICE, SUPPORTED_ENERGY_TRANSFER_MODE, ENERGY_TRANSFER_MODE, SERVICE}
use Rattle.iso_schema.specs.declared.kinds.TheConstants.{BOOLEAN_KIND, LONG_KIND, UNSIGNED_SHORT_KIND, TEXT32_KIND, TEXT37_KIND, TEXT64_KIND, BINARY6_KIND, RESPONSE_CODE_KIND, SERVICE_CATEGORY_KIND, PAYMENT_OPTION_KIND, ENERGY_TRANSFER_MODE_KIND, PAYMENT_OPTION_LIST_KIND, CHARGE_SERVICE_KIND, SUPPORTED_ENERGY_TRANSFER_MODE_KIND, SERVICE_LIST_KIND, SERVICE_KIND}

abbrev pub session_setup_req : List PlainParticle
session_setup_req =
    once EVCCID BINARY6_KIND ∷ []

abbrev pub session_setup_res : List PlainParticle
session_setup_res =
    once RESPONSE_CODE RESPONSE_CODE_KIND ∷ once EVSEID TEXT37_KIND ∷ perhaps EVSE_TIME_STAMP LONG_KIND ∷ []

abbrev pub service_discovery_req : List PlainParticle
service_discovery_req =
    perhaps SERVICE_SCOPE TEXT64_KIND ∷ perhaps SERVICE_CATEGORY SERVICE_CATEGORY_KIND ∷ []

abbrev pub service_discovery_res : List PlainParticle
service_discovery_res =
    once RESPONSE_CODE RESPONSE_CODE_KIND ∷ once PAYMENT_OPTION_LIST PAYMENT_OPTION_LIST_KIND
    ∷ once CHARGE_SERVICE CHARGE_SERVICE_KIND ∷ perhaps SERVICE_LIST SERVICE_LIST_KIND ∷ []

abbrev pub payment_option_list : List PlainParticle
payment_option_list =
    up_to 2 PAYMENT_OPTION PAYMENT_OPTION_KIND ∷ []

abbrev pub charge_service : List PlainParticle
charge_service =
    once SERVICE_ID UNSIGNED_SHORT_KIND ∷ perhaps SERVICE_NAME TEXT32_KIND ∷ once SERVICE_CATEGORY SERVICE_CATEGORY_KIND
    ∷ perhaps SERVICE_SCOPE TEXT64_KIND ∷ once FREE_SERVICE BOOLEAN_KIND
    ∷ once SUPPORTED_ENERGY_TRANSFER_MODE SUPPORTED_ENERGY_TRANSFER_MODE_KIND ∷ []

abbrev pub supported_energy_transfer_mode : List PlainParticle
supported_energy_transfer_mode =
    up_to 6 ENERGY_TRANSFER_MODE ENERGY_TRANSFER_MODE_KIND ∷ []

abbrev pub service_list : List PlainParticle
service_list =
    up_to 8 SERVICE SERVICE_KIND ∷ []

abbrev pub service : List PlainParticle
service =
    once SERVICE_ID UNSIGNED_SHORT_KIND ∷ perhaps SERVICE_NAME TEXT32_KIND ∷ once SERVICE_CATEGORY SERVICE_CATEGORY_KIND
    ∷ perhaps SERVICE_SCOPE TEXT64_KIND ∷ once FREE_SERVICE BOOLEAN_KIND ∷ []

-- ---- the kinds

abbrev pub setup : List PlainKind
setup =
    containing [] session_setup_req ∷ containing [] session_setup_res ∷ containing [] service_discovery_req
    ∷ containing [] service_discovery_res ∷ containing [] payment_option_list ∷ containing [] charge_service
    ∷ containing [] supported_energy_transfer_mode ∷ containing [] service_list ∷ containing [] service ∷ []
