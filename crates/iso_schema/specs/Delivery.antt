-- ISO 15118-2:2014 8.4.3, power delivery, and 8.4.4, AC.
use Rattle.std.specs.Prelude.{List, [], ◌∷◌}
use Rattle.exi_schema.specs.declared.tables.MemberStanding.TheVariants.{Abstract}
use Rattle.exi_schema.specs.Plain.{PlainKind, PlainParticle, containing, one_of, standing, once, perhaps, up_to, choice, perhaps_choice}
use Rattle.iso_schema.specs.declared.names.TheConstants.{RESPONSE_CODE, EVSEID, DC_EV_STATUS, SA_SCHEDULE_TUPLE_ID, AC_EVSE_STATUS, EVSE_MAX_CURRENT, DC_EVSE_STATUS, CHARGE_PROGRESS, CHARGING_PROFILE, DC_EV_POWER_DELIVERY_PARAMETER, EV_POWER_DELIVERY_PARAMETER, PROFILE_ENTRY, CHARGING_PROFILE_ENTRY_START, CHARGING_PROFILE_ENTRY_MAX_POWER, CHARGING_PROFILE_ENTRY_MAX_NUMBER_OF_PHASES_IN_USE, BULK_CHARGING_COMPLETE, CHARGING_COMPLETE, EVSE_STATUS, METER_INFO, RECEIPT_REQUIRED}
use Rattle.iso_schema.specs.declared.kinds.TheConstants.{BOOLEAN_KIND, UNSIGNED_INT_KIND, TUPLE_ID_KIND, PHASES_KIND, TEXT37_KIND, RESPONSE_CODE_KIND, CHARGE_PROGRESS_KIND, EMPTY_KIND, PHYSICAL_VALUE_KIND, DC_EV_STATUS_KIND, AC_EVSE_STATUS_KIND, DC_EVSE_STATUS_KIND, METER_INFO_KIND, CHARGING_PROFILE_KIND, PROFILE_ENTRY_KIND, DC_EV_POWER_DELIVERY_PARAMETER_KIND}

abbrev pub power_delivery_req : List PlainParticle
power_delivery_req =
    once CHARGE_PROGRESS CHARGE_PROGRESS_KIND ∷ once SA_SCHEDULE_TUPLE_ID TUPLE_ID_KIND
    ∷ perhaps CHARGING_PROFILE CHARGING_PROFILE_KIND
    ∷ perhaps_choice (one_of DC_EV_POWER_DELIVERY_PARAMETER DC_EV_POWER_DELIVERY_PARAMETER_KIND ∷ standing Abstract EV_POWER_DELIVERY_PARAMETER EMPTY_KIND ∷ [])
    ∷ []

abbrev pub charging_profile : List PlainParticle
charging_profile =
    up_to 24 PROFILE_ENTRY PROFILE_ENTRY_KIND ∷ []

abbrev pub profile_entry : List PlainParticle
profile_entry =
    once CHARGING_PROFILE_ENTRY_START UNSIGNED_INT_KIND ∷ once CHARGING_PROFILE_ENTRY_MAX_POWER PHYSICAL_VALUE_KIND
    ∷ perhaps CHARGING_PROFILE_ENTRY_MAX_NUMBER_OF_PHASES_IN_USE PHASES_KIND ∷ []

abbrev pub dc_ev_power_delivery_parameter : List PlainParticle
dc_ev_power_delivery_parameter =
    once DC_EV_STATUS DC_EV_STATUS_KIND ∷ perhaps BULK_CHARGING_COMPLETE BOOLEAN_KIND ∷ once CHARGING_COMPLETE BOOLEAN_KIND ∷ []

abbrev pub power_delivery_res : List PlainParticle
power_delivery_res =
    once RESPONSE_CODE RESPONSE_CODE_KIND
    ∷ choice (one_of AC_EVSE_STATUS AC_EVSE_STATUS_KIND ∷ one_of DC_EVSE_STATUS DC_EVSE_STATUS_KIND ∷ standing Abstract EVSE_STATUS EMPTY_KIND ∷ [])
    ∷ []

abbrev pub charging_status_res : List PlainParticle
charging_status_res =
    once RESPONSE_CODE RESPONSE_CODE_KIND ∷ once EVSEID TEXT37_KIND ∷ once SA_SCHEDULE_TUPLE_ID TUPLE_ID_KIND
    ∷ perhaps EVSE_MAX_CURRENT PHYSICAL_VALUE_KIND ∷ perhaps METER_INFO METER_INFO_KIND ∷ perhaps RECEIPT_REQUIRED BOOLEAN_KIND
    ∷ once AC_EVSE_STATUS AC_EVSE_STATUS_KIND ∷ []

-- ---- the kinds

abbrev pub delivery : List PlainKind
delivery =
    containing [] power_delivery_req ∷ containing [] charging_profile ∷ containing [] profile_entry
    ∷ containing [] dc_ev_power_delivery_parameter ∷ containing [] power_delivery_res ∷ containing [] charging_status_res ∷ []
