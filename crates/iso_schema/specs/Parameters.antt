-- ISO 15118-2:2014 8.4.3, charge parameters.
use Rattle.std.specs.Prelude.{List, [], ◌∷◌}
use Rattle.exi_schema.specs.declared.tables.MemberStanding.TheVariants.{Abstract}
use Rattle.exi_schema.specs.Plain.{PlainKind, PlainParticle, containing, one_of, standing, once, perhaps, choice, perhaps_choice}
use Rattle.iso_schema.specs.declared.names.TheConstants.{RESPONSE_CODE, EVSE_PROCESSING, MAX_ENTRIES_SA_SCHEDULE_TUPLE, REQUESTED_ENERGY_TRANSFER_MODE, AC_EV_CHARGE_PARAMETER, DC_EV_CHARGE_PARAMETER, EV_CHARGE_PARAMETER, DEPARTURE_TIME, E_AMOUNT, EV_MAX_VOLTAGE, EV_MAX_CURRENT, EV_MIN_CURRENT, DC_EV_STATUS, EV_MAXIMUM_CURRENT_LIMIT, EV_MAXIMUM_POWER_LIMIT, EV_MAXIMUM_VOLTAGE_LIMIT, EV_ENERGY_CAPACITY, EV_ENERGY_REQUEST, FULL_SOC, BULK_SOC, SA_SCHEDULE_LIST, SA_SCHEDULES, AC_EVSE_CHARGE_PARAMETER, DC_EVSE_CHARGE_PARAMETER, EVSE_CHARGE_PARAMETER}
use Rattle.iso_schema.specs.declared.kinds.TheConstants.{UNSIGNED_SHORT_KIND, UNSIGNED_INT_KIND, PERCENT_KIND, RESPONSE_CODE_KIND, ENERGY_TRANSFER_MODE_KIND, EVSE_PROCESSING_KIND, EMPTY_KIND, PHYSICAL_VALUE_KIND, DC_EV_STATUS_KIND, AC_EV_CHARGE_PARAMETER_KIND, DC_EV_CHARGE_PARAMETER_KIND, SA_SCHEDULE_LIST_KIND, AC_EVSE_CHARGE_PARAMETER_KIND, DC_EVSE_CHARGE_PARAMETER_KIND}

abbrev pub charge_parameter_discovery_req : List PlainParticle
charge_parameter_discovery_req =
    perhaps MAX_ENTRIES_SA_SCHEDULE_TUPLE UNSIGNED_SHORT_KIND ∷ once REQUESTED_ENERGY_TRANSFER_MODE ENERGY_TRANSFER_MODE_KIND
    ∷ choice (one_of AC_EV_CHARGE_PARAMETER AC_EV_CHARGE_PARAMETER_KIND ∷ one_of DC_EV_CHARGE_PARAMETER DC_EV_CHARGE_PARAMETER_KIND ∷ standing Abstract EV_CHARGE_PARAMETER EMPTY_KIND ∷ [])
    ∷ []

abbrev pub ac_ev_charge_parameter : List PlainParticle
ac_ev_charge_parameter =
    perhaps DEPARTURE_TIME UNSIGNED_INT_KIND ∷ once E_AMOUNT PHYSICAL_VALUE_KIND ∷ once EV_MAX_VOLTAGE PHYSICAL_VALUE_KIND
    ∷ once EV_MAX_CURRENT PHYSICAL_VALUE_KIND ∷ once EV_MIN_CURRENT PHYSICAL_VALUE_KIND ∷ []

abbrev pub dc_ev_charge_parameter : List PlainParticle
dc_ev_charge_parameter =
    perhaps DEPARTURE_TIME UNSIGNED_INT_KIND ∷ once DC_EV_STATUS DC_EV_STATUS_KIND
    ∷ once EV_MAXIMUM_CURRENT_LIMIT PHYSICAL_VALUE_KIND ∷ perhaps EV_MAXIMUM_POWER_LIMIT PHYSICAL_VALUE_KIND
    ∷ once EV_MAXIMUM_VOLTAGE_LIMIT PHYSICAL_VALUE_KIND ∷ perhaps EV_ENERGY_CAPACITY PHYSICAL_VALUE_KIND
    ∷ perhaps EV_ENERGY_REQUEST PHYSICAL_VALUE_KIND ∷ perhaps FULL_SOC PERCENT_KIND ∷ perhaps BULK_SOC PERCENT_KIND ∷ []

abbrev pub charge_parameter_discovery_res : List PlainParticle
charge_parameter_discovery_res =
    once RESPONSE_CODE RESPONSE_CODE_KIND ∷ once EVSE_PROCESSING EVSE_PROCESSING_KIND
    ∷ perhaps_choice (one_of SA_SCHEDULE_LIST SA_SCHEDULE_LIST_KIND ∷ standing Abstract SA_SCHEDULES EMPTY_KIND ∷ [])
    ∷ choice (one_of AC_EVSE_CHARGE_PARAMETER AC_EVSE_CHARGE_PARAMETER_KIND ∷ one_of DC_EVSE_CHARGE_PARAMETER DC_EVSE_CHARGE_PARAMETER_KIND ∷ standing Abstract EVSE_CHARGE_PARAMETER EMPTY_KIND ∷ [])
    ∷ []

-- ---- the kinds

abbrev pub parameters : List PlainKind
parameters =
    containing [] charge_parameter_discovery_req ∷ containing [] ac_ev_charge_parameter ∷ containing [] dc_ev_charge_parameter
    ∷ containing [] charge_parameter_discovery_res ∷ []
