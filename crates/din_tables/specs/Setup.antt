-- DIN SPEC 70121:2014 9.4 (messages that set up a session and end it): what stands where in them, and what it asks or tells.
use Rattle.std.specs.Prelude.{ℕ, Bool, List, [], ◌∷◌}
use Rattle.session_words.specs.declared.code.Code.{Code}
use Rattle.session_words.specs.declared.limits.EvseId.TheVariants as evse
use Rattle.session_words.specs.declared.mode.OfferedMode.{OfferedMode}
use Rattle.session_words.specs.declared.mode.OfferedMode.TheVariants as offered
use Rattle.session_words.specs.declared.word.Tell.{Tell}
use Rattle.session_words.specs.declared.word.Tell.TheVariants as tell
use Rattle.din_schema.specs.declared.names.TheConstants.{RESPONSE_CODE, EVCCID, EVSEID, PAYMENT_OPTIONS, PAYMENT_OPTION, CHARGE_SERVICE, SERVICE_TAG, SERVICE_ID, SERVICE_CATEGORY, FREE_SERVICE, ENERGY_TRANSFER_TYPE, SELECTED_PAYMENT_OPTION, SELECTED_SERVICE_LIST, SELECTED_SERVICE, EVSE_PROCESSING}
use Rattle.din_schema.specs.declared.kinds.TheConstants.{BOOLEAN_KIND, UNSIGNED_SHORT_KIND, BINARY8_KIND, BINARY32_KIND, PAYMENT_OPTION_KIND, SERVICE_CATEGORY_KIND}
use Rattle.message_tables.specs.Tables.{Table, inside, rows, flag, ordinal, natural, simple, holding, nothing, once, always, ◌▷◌}
use Rattle.message_tables.specs.Values.{some_bytes, only, list_of}
pub use Rattle.message_tables.specs.Meanings.{SetupReq, setup_asked, Selection, selection_asked, Authorization, authorization_told}
use Rattle.din_tables.specs.Codes.{response_code, step, offered_mode, external}

-- ---- a code alone

abbrev pub code_alone : Table rows (Code × Unit {0})
code_alone = once RESPONSE_CODE response_code ▷ nothing

-- ---- SessionSetup

abbrev pub setup_req : Table rows SetupReq
setup_req = once EVCCID (some_bytes 8 BINARY8_KIND) ▷ nothing

abbrev pub Setup : Type 0
Setup = List ℕ × Unit {0}

abbrev pub setup_res : Table rows (Code × Setup)
setup_res =
    once RESPONSE_CODE response_code
    ▷ once EVSEID (some_bytes 32 BINARY32_KIND)
    ▷ nothing

abbrev pub setup_told : Setup → Tell
setup_told x = tell.SessionSetup (evse.Bytes (record { items = x.0 }))

-- ---- ServiceDiscovery: service 1, which charges a car, paid elsewhere

abbrev pub ChargeService : Type 0
ChargeService = Bool × (OfferedMode × Unit {0})

abbrev pub charge_service : Table inside ChargeService
charge_service = holding (
    always SERVICE_TAG (holding (
    always SERVICE_ID (simple natural UNSIGNED_SHORT_KIND) 1
    ▷ always SERVICE_CATEGORY (simple ordinal SERVICE_CATEGORY_KIND) 0
    ▷ nothing)) tt
    ▷ once FREE_SERVICE (simple flag BOOLEAN_KIND)
    ▷ once ENERGY_TRANSFER_TYPE offered_mode
    ▷ nothing)

abbrev pub Discovery : Type 0
Discovery = ChargeService × Unit {0}

abbrev pub discovery_res : Table rows (Code × Discovery)
discovery_res =
    once RESPONSE_CODE response_code
    ▷ always PAYMENT_OPTIONS (holding (always PAYMENT_OPTION (simple ordinal PAYMENT_OPTION_KIND) 1 ▷ nothing)) tt
    ▷ once CHARGE_SERVICE charge_service
    ▷ nothing

abbrev pub discovery_told : Discovery → Tell
discovery_told x = tell.ServiceDiscovery x.0.0 (record { items = x.0.1.0 ∷ [] })

-- the first mode that is offered
abbrev pub first_mode : List OfferedMode → OfferedMode
first_mode [] = offered.DcExtended
first_mode (mode ∷ modes) = mode

-- ---- ServicePaymentSelection

abbrev pub service : Table inside ℕ
service = only SERVICE_ID (simple natural UNSIGNED_SHORT_KIND)

abbrev pub selection_req : Table rows Selection
selection_req =
    once SELECTED_PAYMENT_OPTION external
    ▷ once SELECTED_SERVICE_LIST (list_of SELECTED_SERVICE 1 16 service)
    ▷ nothing

-- ---- ContractAuthentication

abbrev pub authorization_res : Table rows (Code × Authorization)
authorization_res =
    once RESPONSE_CODE response_code
    ▷ once EVSE_PROCESSING step
    ▷ nothing
