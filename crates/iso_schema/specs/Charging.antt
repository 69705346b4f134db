-- ISO 15118-2:2014 8.4.5, DC.
use Rattle.std.specs.Prelude.{List, [], ◌∷◌}
use Rattle.exi_schema.specs.Plain.{PlainKind, PlainParticle, containing, once, perhaps}
use Rattle.iso_schema.specs.declared.names.TheConstants.{RESPONSE_CODE, EVSEID, EVSE_PROCESSING, DC_EV_STATUS, EV_MAXIMUM_CURRENT_LIMIT, EV_MAXIMUM_POWER_LIMIT, EV_MAXIMUM_VOLTAGE_LIMIT, SA_SCHEDULE_TUPLE_ID, DC_EVSE_STATUS, EVSE_MAXIMUM_CURRENT_LIMIT, EVSE_MAXIMUM_POWER_LIMIT, EVSE_MAXIMUM_VOLTAGE_LIMIT, BULK_CHARGING_COMPLETE, CHARGING_COMPLETE, METER_INFO, RECEIPT_REQUIRED, EV_TARGET_VOLTAGE, EV_TARGET_CURRENT, EVSE_PRESENT_VOLTAGE, REMAINING_TIME_TO_FULL_SO_C, REMAINING_TIME_TO_BULK_SO_C, EVSE_PRESENT_CURRENT, EVSE_CURRENT_LIMIT_ACHIEVED, EVSE_VOLTAGE_LIMIT_ACHIEVED, EVSE_POWER_LIMIT_ACHIEVED}
use Rattle.iso_schema.specs.declared.kinds.TheConstants.{BOOLEAN_KIND, TUPLE_ID_KIND, TEXT37_KIND, RESPONSE_CODE_KIND, EVSE_PROCESSING_KIND, PHYSICAL_VALUE_KIND, DC_EV_STATUS_KIND, DC_EVSE_STATUS_KIND, METER_INFO_KIND}

abbrev pub cable_check_req : List PlainParticle
cable_check_req =
    once DC_EV_STATUS DC_EV_STATUS_KIND ∷ []

abbrev pub cable_check_res : List PlainParticle
cable_check_res =
    once RESPONSE_CODE RESPONSE_CODE_KIND ∷ once DC_EVSE_STATUS DC_EVSE_STATUS_KIND ∷ once EVSE_PROCESSING EVSE_PROCESSING_KIND ∷ []

abbrev pub pre_charge_req : List PlainParticle
pre_charge_req =
    once DC_EV_STATUS DC_EV_STATUS_KIND ∷ once EV_TARGET_VOLTAGE PHYSICAL_VALUE_KIND ∷ once EV_TARGET_CURRENT PHYSICAL_VALUE_KIND
    ∷ []

abbrev pub pre_charge_res : List PlainParticle
pre_charge_res =
    once RESPONSE_CODE RESPONSE_CODE_KIND ∷ once DC_EVSE_STATUS DC_EVSE_STATUS_KIND ∷ once EVSE_PRESENT_VOLTAGE PHYSICAL_VALUE_KIND
    ∷ []

abbrev pub current_demand_req : List PlainParticle
current_demand_req =
    once DC_EV_STATUS DC_EV_STATUS_KIND ∷ once EV_TARGET_CURRENT PHYSICAL_VALUE_KIND
    ∷ perhaps EV_MAXIMUM_VOLTAGE_LIMIT PHYSICAL_VALUE_KIND ∷ perhaps EV_MAXIMUM_CURRENT_LIMIT PHYSICAL_VALUE_KIND
    ∷ perhaps EV_MAXIMUM_POWER_LIMIT PHYSICAL_VALUE_KIND ∷ perhaps BULK_CHARGING_COMPLETE BOOLEAN_KIND
    ∷ once CHARGING_COMPLETE BOOLEAN_KIND ∷ perhaps REMAINING_TIME_TO_FULL_SO_C PHYSICAL_VALUE_KIND
    ∷ perhaps REMAINING_TIME_TO_BULK_SO_C PHYSICAL_VALUE_KIND ∷ once EV_TARGET_VOLTAGE PHYSICAL_VALUE_KIND ∷ []

abbrev pub current_demand_res : List PlainParticle
current_demand_res =
    once RESPONSE_CODE RESPONSE_CODE_KIND ∷ once DC_EVSE_STATUS DC_EVSE_STATUS_KIND ∷ once EVSE_PRESENT_VOLTAGE PHYSICAL_VALUE_KIND
    ∷ once EVSE_PRESENT_CURRENT PHYSICAL_VALUE_KIND ∷ once EVSE_CURRENT_LIMIT_ACHIEVED BOOLEAN_KIND
    ∷ once EVSE_VOLTAGE_LIMIT_ACHIEVED BOOLEAN_KIND ∷ once EVSE_POWER_LIMIT_ACHIEVED BOOLEAN_KIND
    ∷ perhaps EVSE_MAXIMUM_VOLTAGE_LIMIT PHYSICAL_VALUE_KIND ∷ perhaps EVSE_MAXIMUM_CURRENT_LIMIT PHYSICAL_VALUE_KIND
    ∷ perhaps EVSE_MAXIMUM_POWER_LIMIT PHYSICAL_VALUE_KIND ∷ once EVSEID TEXT37_KIND ∷ once SA_SCHEDULE_TUPLE_ID TUPLE_ID_KIND
    ∷ perhaps METER_INFO METER_INFO_KIND ∷ perhaps RECEIPT_REQUIRED BOOLEAN_KIND ∷ []

abbrev pub welding_detection_req : List PlainParticle
welding_detection_req =
    once DC_EV_STATUS DC_EV_STATUS_KIND ∷ []

abbrev pub welding_detection_res : List PlainParticle
welding_detection_res =
    once RESPONSE_CODE RESPONSE_CODE_KIND ∷ once DC_EVSE_STATUS DC_EVSE_STATUS_KIND ∷ once EVSE_PRESENT_VOLTAGE PHYSICAL_VALUE_KIND
    ∷ []

-- ---- the kinds

abbrev pub charging : List PlainKind
charging =
    containing [] cable_check_req ∷ containing [] cable_check_res ∷ containing [] pre_charge_req ∷ containing [] pre_charge_res
    ∷ containing [] current_demand_req ∷ containing [] current_demand_res ∷ containing [] welding_detection_req
    ∷ containing [] welding_detection_res ∷ []
