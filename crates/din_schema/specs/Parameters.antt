-- DIN SPEC 70121:2014 9.4, charge parameters and power delivery.
use Rattle.std.specs.Prelude.{List, [], ◌∷◌}
use Rattle.exi_schema.specs.declared.tables.MemberStanding.TheVariants.{Abstract, OutOfProfile}
use Rattle.exi_schema.specs.Plain.{PlainKind, PlainParticle, containing, one_of, standing, once, perhaps, at_least_one, left_out, choice, perhaps_choice}
use Rattle.din_schema.specs.declared.names.TheConstants.{RESPONSE_CODE, EVSE_PROCESSING, EV_REQUESTED_ENERGY_TRANSFER_TYPE, AC_EV_CHARGE_PARAMETER, DC_EV_CHARGE_PARAMETER, EV_CHARGE_PARAMETER, DC_EV_STATUS, EV_MAXIMUM_CURRENT_LIMIT, EV_MAXIMUM_POWER_LIMIT, EV_MAXIMUM_VOLTAGE_LIMIT, EV_ENERGY_CAPACITY, EV_ENERGY_REQUEST, FULL_SOC, BULK_SOC, SA_SCHEDULE_LIST, SA_SCHEDULES, AC_EVSE_CHARGE_PARAMETER, DC_EVSE_CHARGE_PARAMETER, EVSE_CHARGE_PARAMETER, SA_SCHEDULE_TUPLE, SA_SCHEDULE_TUPLE_ID, P_MAX_SCHEDULE, SALES_TARIFF, P_MAX_SCHEDULE_ID, P_MAX_SCHEDULE_ENTRY, RELATIVE_TIME_INTERVAL, TIME_INTERVAL, P_MAX, START, DURATION, DC_EVSE_STATUS, EVSE_MAXIMUM_CURRENT_LIMIT, EVSE_MAXIMUM_POWER_LIMIT, EVSE_MAXIMUM_VOLTAGE_LIMIT, EVSE_MINIMUM_CURRENT_LIMIT, EVSE_MINIMUM_VOLTAGE_LIMIT, EVSE_CURRENT_REGULATION_TOLERANCE, EVSE_PEAK_CURRENT_RIPPLE, EVSE_ENERGY_TO_BE_DELIVERED, READY_TO_CHARGE_STATE, CHARGING_PROFILE, DC_EV_POWER_DELIVERY_PARAMETER, EV_POWER_DELIVERY_PARAMETER, PROFILE_ENTRY, CHARGING_PROFILE_ENTRY_START, CHARGING_PROFILE_ENTRY_MAX_POWER, BULK_CHARGING_COMPLETE, CHARGING_COMPLETE, AC_EVSE_STATUS, EVSE_STATUS}
use Rattle.din_schema.specs.declared.kinds.TheConstants.{BOOLEAN_KIND, SHORT_KIND, UNSIGNED_INT_KIND, PERCENT_KIND, RESPONSE_CODE_KIND, EVSE_PROCESSING_KIND, ENERGY_TRANSFER_MODE_KIND, EMPTY_KIND, PHYSICAL_VALUE_KIND, DC_EV_STATUS_KIND, DC_EVSE_STATUS_KIND, DC_EV_CHARGE_PARAMETER_KIND, SA_SCHEDULE_LIST_KIND, SA_SCHEDULE_TUPLE_KIND, P_MAX_SCHEDULE_KIND, P_MAX_SCHEDULE_ENTRY_KIND, RELATIVE_TIME_INTERVAL_KIND, DC_EVSE_CHARGE_PARAMETER_KIND, CHARGING_PROFILE_KIND, PROFILE_ENTRY_KIND, DC_EV_POWER_DELIVERY_PARAMETER_KIND}

abbrev pub charge_parameter_discovery_req : List PlainParticle
charge_parameter_discovery_req =
    once EV_REQUESTED_ENERGY_TRANSFER_TYPE ENERGY_TRANSFER_MODE_KIND
    ∷ choice (standing OutOfProfile AC_EV_CHARGE_PARAMETER EMPTY_KIND ∷ one_of DC_EV_CHARGE_PARAMETER DC_EV_CHARGE_PARAMETER_KIND ∷ standing Abstract EV_CHARGE_PARAMETER EMPTY_KIND ∷ [])
    ∷ []

abbrev pub dc_ev_charge_parameter : List PlainParticle
dc_ev_charge_parameter =
    once DC_EV_STATUS DC_EV_STATUS_KIND ∷ once EV_MAXIMUM_CURRENT_LIMIT PHYSICAL_VALUE_KIND
    ∷ perhaps EV_MAXIMUM_POWER_LIMIT PHYSICAL_VALUE_KIND ∷ once EV_MAXIMUM_VOLTAGE_LIMIT PHYSICAL_VALUE_KIND
    ∷ perhaps EV_ENERGY_CAPACITY PHYSICAL_VALUE_KIND ∷ perhaps EV_ENERGY_REQUEST PHYSICAL_VALUE_KIND ∷ perhaps FULL_SOC PERCENT_KIND
    ∷ perhaps BULK_SOC PERCENT_KIND ∷ []

abbrev pub charge_parameter_discovery_res : List PlainParticle
charge_parameter_discovery_res =
    once RESPONSE_CODE RESPONSE_CODE_KIND ∷ once EVSE_PROCESSING EVSE_PROCESSING_KIND
    ∷ perhaps_choice (one_of SA_SCHEDULE_LIST SA_SCHEDULE_LIST_KIND ∷ standing Abstract SA_SCHEDULES EMPTY_KIND ∷ [])
    ∷ choice (standing OutOfProfile AC_EVSE_CHARGE_PARAMETER EMPTY_KIND ∷ one_of DC_EVSE_CHARGE_PARAMETER DC_EVSE_CHARGE_PARAMETER_KIND ∷ standing Abstract EVSE_CHARGE_PARAMETER EMPTY_KIND ∷ [])
    ∷ []

abbrev pub sa_schedule_list : List PlainParticle
sa_schedule_list =
    at_least_one 3 SA_SCHEDULE_TUPLE SA_SCHEDULE_TUPLE_KIND ∷ []

abbrev pub sa_schedule_tuple : List PlainParticle
sa_schedule_tuple =
    once SA_SCHEDULE_TUPLE_ID SHORT_KIND ∷ once P_MAX_SCHEDULE P_MAX_SCHEDULE_KIND ∷ left_out SALES_TARIFF EMPTY_KIND ∷ []

abbrev pub p_max_schedule : List PlainParticle
p_max_schedule =
    once P_MAX_SCHEDULE_ID SHORT_KIND ∷ at_least_one 128 P_MAX_SCHEDULE_ENTRY P_MAX_SCHEDULE_ENTRY_KIND ∷ []

abbrev pub p_max_schedule_entry : List PlainParticle
p_max_schedule_entry =
    choice (one_of RELATIVE_TIME_INTERVAL RELATIVE_TIME_INTERVAL_KIND ∷ standing Abstract TIME_INTERVAL EMPTY_KIND ∷ [])
    ∷ once P_MAX SHORT_KIND ∷ []

abbrev pub relative_time_interval : List PlainParticle
relative_time_interval =
    once START UNSIGNED_INT_KIND ∷ perhaps DURATION UNSIGNED_INT_KIND ∷ []

abbrev pub dc_evse_charge_parameter : List PlainParticle
dc_evse_charge_parameter =
    once DC_EVSE_STATUS DC_EVSE_STATUS_KIND ∷ once EVSE_MAXIMUM_CURRENT_LIMIT PHYSICAL_VALUE_KIND
    ∷ perhaps EVSE_MAXIMUM_POWER_LIMIT PHYSICAL_VALUE_KIND ∷ once EVSE_MAXIMUM_VOLTAGE_LIMIT PHYSICAL_VALUE_KIND
    ∷ once EVSE_MINIMUM_CURRENT_LIMIT PHYSICAL_VALUE_KIND ∷ once EVSE_MINIMUM_VOLTAGE_LIMIT PHYSICAL_VALUE_KIND
    ∷ perhaps EVSE_CURRENT_REGULATION_TOLERANCE PHYSICAL_VALUE_KIND ∷ once EVSE_PEAK_CURRENT_RIPPLE PHYSICAL_VALUE_KIND
    ∷ perhaps EVSE_ENERGY_TO_BE_DELIVERED PHYSICAL_VALUE_KIND ∷ []

abbrev pub power_delivery_req : List PlainParticle
power_delivery_req =
    once READY_TO_CHARGE_STATE BOOLEAN_KIND ∷ perhaps CHARGING_PROFILE CHARGING_PROFILE_KIND
    ∷ perhaps_choice (one_of DC_EV_POWER_DELIVERY_PARAMETER DC_EV_POWER_DELIVERY_PARAMETER_KIND ∷ standing Abstract EV_POWER_DELIVERY_PARAMETER EMPTY_KIND ∷ [])
    ∷ []

abbrev pub charging_profile : List PlainParticle
charging_profile =
    once SA_SCHEDULE_TUPLE_ID SHORT_KIND ∷ at_least_one 24 PROFILE_ENTRY PROFILE_ENTRY_KIND ∷ []

abbrev pub profile_entry : List PlainParticle
profile_entry =
    once CHARGING_PROFILE_ENTRY_START UNSIGNED_INT_KIND ∷ once CHARGING_PROFILE_ENTRY_MAX_POWER SHORT_KIND ∷ []

abbrev pub dc_ev_power_delivery_parameter : List PlainParticle
dc_ev_power_delivery_parameter =
    once DC_EV_STATUS DC_EV_STATUS_KIND ∷ perhaps BULK_CHARGING_COMPLETE BOOLEAN_KIND ∷ once CHARGING_COMPLETE BOOLEAN_KIND ∷ []

abbrev pub power_delivery_res : List PlainParticle
power_delivery_res =
    once RESPONSE_CODE RESPONSE_CODE_KIND
    ∷ choice (standing OutOfProfile AC_EVSE_STATUS EMPTY_KIND ∷ one_of DC_EVSE_STATUS DC_EVSE_STATUS_KIND ∷ standing Abstract EVSE_STATUS EMPTY_KIND ∷ [])
    ∷ []

-- ---- the kinds

abbrev pub parameters : List PlainKind
parameters =
    containing [] charge_parameter_discovery_req ∷ containing [] dc_ev_charge_parameter
    ∷ containing [] charge_parameter_discovery_res ∷ containing [] sa_schedule_list ∷ containing [] sa_schedule_tuple
    ∷ containing [] p_max_schedule ∷ containing [] p_max_schedule_entry ∷ containing [] relative_time_interval
    ∷ containing [] dc_evse_charge_parameter ∷ containing [] power_delivery_req ∷ containing [] charging_profile
    ∷ containing [] profile_entry ∷ containing [] dc_ev_power_delivery_parameter ∷ containing [] power_delivery_res ∷ []
