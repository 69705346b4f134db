-- ISO 15118-2:2014 8.5.2, schedules and charge parameters of a post.
use Rattle.std.specs.Prelude.{List, [], ◌∷◌}
use Rattle.exi_schema.specs.declared.tables.MemberStanding.TheVariants.{Abstract}
use Rattle.exi_schema.specs.Plain.{PlainKind, PlainParticle, containing, one_of, standing, once, perhaps, up_to, at_least_one, left_out, choice}
use Rattle.iso_schema.specs.declared.names.TheConstants.{SA_SCHEDULE_TUPLE, SA_SCHEDULE_TUPLE_ID, P_MAX_SCHEDULE, SALES_TARIFF, P_MAX_SCHEDULE_ENTRY, RELATIVE_TIME_INTERVAL, TIME_INTERVAL, P_MAX, START, DURATION, AC_EVSE_STATUS, EVSE_NOMINAL_VOLTAGE, EVSE_MAX_CURRENT, DC_EVSE_STATUS, EVSE_MAXIMUM_CURRENT_LIMIT, EVSE_MAXIMUM_POWER_LIMIT, EVSE_MAXIMUM_VOLTAGE_LIMIT, EVSE_MINIMUM_CURRENT_LIMIT, EVSE_MINIMUM_VOLTAGE_LIMIT, EVSE_CURRENT_REGULATION_TOLERANCE, EVSE_PEAK_CURRENT_RIPPLE, EVSE_ENERGY_TO_BE_DELIVERED}
use Rattle.iso_schema.specs.declared.kinds.TheConstants.{TUPLE_ID_KIND, INTERVAL_START_KIND, INTERVAL_DURATION_KIND, EMPTY_KIND, PHYSICAL_VALUE_KIND, AC_EVSE_STATUS_KIND, DC_EVSE_STATUS_KIND, SA_SCHEDULE_TUPLE_KIND, P_MAX_SCHEDULE_KIND, P_MAX_SCHEDULE_ENTRY_KIND, RELATIVE_TIME_INTERVAL_KIND}

abbrev pub sa_schedule_list : List PlainParticle
sa_schedule_list =
    up_to 3 SA_SCHEDULE_TUPLE SA_SCHEDULE_TUPLE_KIND ∷ []

abbrev pub sa_schedule_tuple : List PlainParticle
sa_schedule_tuple =
    once SA_SCHEDULE_TUPLE_ID TUPLE_ID_KIND ∷ once P_MAX_SCHEDULE P_MAX_SCHEDULE_KIND ∷ left_out SALES_TARIFF EMPTY_KIND ∷ []

abbrev pub p_max_schedule : List PlainParticle
p_max_schedule =
    at_least_one 128 P_MAX_SCHEDULE_ENTRY P_MAX_SCHEDULE_ENTRY_KIND ∷ []

abbrev pub p_max_schedule_entry : List PlainParticle
p_max_schedule_entry =
    choice (one_of RELATIVE_TIME_INTERVAL RELATIVE_TIME_INTERVAL_KIND ∷ standing Abstract TIME_INTERVAL EMPTY_KIND ∷ [])
    ∷ once P_MAX PHYSICAL_VALUE_KIND ∷ []

abbrev pub relative_time_interval : List PlainParticle
relative_time_interval =
    once START INTERVAL_START_KIND ∷ perhaps DURATION INTERVAL_DURATION_KIND ∷ []

abbrev pub ac_evse_charge_parameter : List PlainParticle
ac_evse_charge_parameter =
    once AC_EVSE_STATUS AC_EVSE_STATUS_KIND ∷ once EVSE_NOMINAL_VOLTAGE PHYSICAL_VALUE_KIND
    ∷ once EVSE_MAX_CURRENT PHYSICAL_VALUE_KIND ∷ []

abbrev pub dc_evse_charge_parameter : List PlainParticle
dc_evse_charge_parameter =
    once DC_EVSE_STATUS DC_EVSE_STATUS_KIND ∷ once EVSE_MAXIMUM_CURRENT_LIMIT PHYSICAL_VALUE_KIND
    ∷ once EVSE_MAXIMUM_POWER_LIMIT PHYSICAL_VALUE_KIND ∷ once EVSE_MAXIMUM_VOLTAGE_LIMIT PHYSICAL_VALUE_KIND
    ∷ once EVSE_MINIMUM_CURRENT_LIMIT PHYSICAL_VALUE_KIND ∷ once EVSE_MINIMUM_VOLTAGE_LIMIT PHYSICAL_VALUE_KIND
    ∷ perhaps EVSE_CURRENT_REGULATION_TOLERANCE PHYSICAL_VALUE_KIND ∷ once EVSE_PEAK_CURRENT_RIPPLE PHYSICAL_VALUE_KIND
    ∷ perhaps EVSE_ENERGY_TO_BE_DELIVERED PHYSICAL_VALUE_KIND ∷ []

-- ---- the kinds

abbrev pub schedules : List PlainKind
schedules =
    containing [] sa_schedule_list ∷ containing [] sa_schedule_tuple ∷ containing [] p_max_schedule
    ∷ containing [] p_max_schedule_entry ∷ containing [] relative_time_interval ∷ containing [] ac_evse_charge_parameter
    ∷ containing [] dc_evse_charge_parameter ∷ []
