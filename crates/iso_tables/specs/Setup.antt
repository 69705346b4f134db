-- ISO 15118-2:2014 8.4.3 (messages that set up a session and end it): what stands where in them, and what it asks or tells.
use Rattle.std.specs.Prelude.{ℕ, Bool, List}
use Rattle.session_words.specs.declared.code.Code.{Code}
use Rattle.session_words.specs.declared.limits.EvseId.TheVariants as evse_id
use Rattle.session_words.specs.declared.mode.OfferedMode.{OfferedMode}
use Rattle.session_words.specs.declared.word.Ask.{Ask}
use Rattle.session_words.specs.declared.word.Ask.TheVariants as ask
use Rattle.session_words.specs.declared.word.Tell.{Tell}
use Rattle.session_words.specs.declared.word.Tell.TheVariants as tell
use Rattle.iso_schema.specs.declared.names.TheConstants.{RESPONSE_CODE, EVCCID, EVSEID, PAYMENT_OPTION_LIST, PAYMENT_OPTION, CHARGE_SERVICE, SERVICE_ID, SERVICE_CATEGORY, FREE_SERVICE, SUPPORTED_ENERGY_TRANSFER_MODE, ENERGY_TRANSFER_MODE, SELECTED_PAYMENT_OPTION, SELECTED_SERVICE_LIST, SELECTED_SERVICE, EVSE_PROCESSING, CHARGING_SESSION}
use Rattle.iso_schema.specs.declared.kinds.TheConstants.{BOOLEAN_KIND, UNSIGNED_SHORT_KIND, BINARY6_KIND, PAYMENT_OPTION_KIND, SERVICE_CATEGORY_KIND}
use Rattle.message_tables.specs.Tables.{Table, inside, rows, flag, ordinal, natural, simple, holding, nothing, once, always, ◌▷◌}
use Rattle.message_tables.specs.Values.{some_bytes, only, list_of}
pub use Rattle.message_tables.specs.Meanings.{SetupReq, setup_asked, Selection, selection_asked, Authorization, authorization_told}
use Rattle.iso_tables.specs.Codes.{response_code, step, offered_mode, external, pause}
use Rattle.iso_tables.specs.Values.{evse}

-- ---- a code alone

abbrev pub code_alone : Table rows (Code × Unit {0})
code_alone = once RESPONSE_CODE response_code ▷ nothing

-- ---- SessionSetup

abbrev pub setup_req : Table rows SetupReq
setup_req = once EVCCID (some_bytes 8 BINARY6_KIND) ▷ nothing

abbrev pub Setup : Type 0
Setup = List ℕ × Unit {0}

abbrev pub setup_res : Table rows (Code × Setup)
setup_res =
    once RESPONSE_CODE response_code
    ▷ once EVSEID evse
    ▷ nothing

abbrev pub setup_told : Setup → Tell
setup_told x = tell.SessionSetup (evse_id.Text x.0)

-- ---- ServiceDiscovery: service 1, which charges a car, paid elsewhere

abbrev pub ChargeService : Type 0
ChargeService = Bool × (List OfferedMode × Unit {0})

abbrev pub charge_service : Table inside ChargeService
charge_service = holding (
    always SERVICE_ID (simple natural UNSIGNED_SHORT_KIND) 1
    ▷ always SERVICE_CATEGORY (simple ordinal SERVICE_CATEGORY_KIND) 0
    ▷ once FREE_SERVICE (simple flag BOOLEAN_KIND)
    ▷ once SUPPORTED_ENERGY_TRANSFER_MODE (list_of ENERGY_TRANSFER_MODE 1 6 offered_mode)
    ▷ nothing)

abbrev pub Discovery : Type 0
Discovery = ChargeService × Unit {0}

abbrev pub discovery_res : Table rows (Code × Discovery)
discovery_res =
    once RESPONSE_CODE response_code
    ▷ always PAYMENT_OPTION_LIST (holding (always PAYMENT_OPTION (simple ordinal PAYMENT_OPTION_KIND) 1 ▷ nothing)) tt
    ▷ once CHARGE_SERVICE charge_service
    ▷ nothing

abbrev pub discovery_told : Discovery → Tell
discovery_told x = tell.ServiceDiscovery x.0.0 (record { items = x.0.1.0 })

-- ---- ServiceDetail

abbrev pub Service : Type 0
Service = ℕ × Unit {0}

abbrev pub service_row : Table rows Service
service_row = once SERVICE_ID (simple natural UNSIGNED_SHORT_KIND) ▷ nothing

abbrev pub detail_asked : Service → Ask
detail_asked x = ask.ServiceDetail x.0

abbrev pub detail_res : Table rows (Code × Service)
detail_res = once RESPONSE_CODE response_code ▷ service_row

abbrev pub detail_told : Service → Tell
detail_told x = tell.ServiceDetail x.0

-- ---- PaymentServiceSelection

abbrev pub service : Table inside ℕ
service = only SERVICE_ID (simple natural UNSIGNED_SHORT_KIND)

abbrev pub selection_req : Table rows Selection
selection_req =
    once SELECTED_PAYMENT_OPTION external
    ▷ once SELECTED_SERVICE_LIST (list_of SELECTED_SERVICE 1 16 service)
    ▷ nothing

-- ---- Authorization

abbrev pub authorization_res : Table rows (Code × Authorization)
authorization_res =
    once RESPONSE_CODE response_code
    ▷ once EVSE_PROCESSING step
    ▷ nothing

-- ---- SessionStop

abbrev pub StopReq : Type 0
StopReq = Bool × Unit {0}

abbrev pub stop_req : Table rows StopReq
stop_req = once CHARGING_SESSION pause ▷ nothing

abbrev pub stop_asked : StopReq → Ask
stop_asked x = ask.SessionStop x.0
