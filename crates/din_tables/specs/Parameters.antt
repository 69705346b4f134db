-- DIN SPEC 70121:2014 9.4 (ChargeParameterDiscovery): what stands where in it, and what it asks or tells. Of a schedule a word has the count
-- of its entries and the least power. They are written from one second to the next, each for a day.
use Rattle.std.specs.Prelude.{ℕ, map, length, ℤ, pos, true, List, Option}
use Rattle.std.specs.Option.{option_map}
use Rattle.session_words.specs.declared.amount.Amount.{Amount}
use Rattle.session_words.specs.declared.code.Code.{Code}
use Rattle.session_words.specs.declared.code.Processing.{Processing}
use Rattle.session_words.specs.declared.limits.CarLimits.TheVariants as car
use Rattle.session_words.specs.declared.limits.DcStatus.{DcStatus}
use Rattle.session_words.specs.declared.limits.PostLimits.{PostLimits}
use Rattle.session_words.specs.declared.limits.PostLimits.TheVariants as limits
use Rattle.session_words.specs.declared.limits.Tuple.{Tuple}
use Rattle.session_words.specs.declared.mode.Mode.{Mode}
use Rattle.session_words.specs.declared.word.Ask.{Ask}
use Rattle.session_words.specs.declared.word.Ask.TheVariants as ask
use Rattle.session_words.specs.declared.word.Tell.{Tell}
use Rattle.session_words.specs.declared.word.Tell.TheVariants as tell
use Rattle.din_schema.specs.declared.names.TheConstants.{RESPONSE_CODE, EVSE_PROCESSING, EV_REQUESTED_ENERGY_TRANSFER_TYPE, DC_EV_CHARGE_PARAMETER, DC_EV_STATUS, EV_MAXIMUM_CURRENT_LIMIT, EV_MAXIMUM_POWER_LIMIT, EV_MAXIMUM_VOLTAGE_LIMIT, SA_SCHEDULE_LIST, SA_SCHEDULE_TUPLE, SA_SCHEDULE_TUPLE_ID, P_MAX_SCHEDULE, P_MAX_SCHEDULE_ID, P_MAX_SCHEDULE_ENTRY, RELATIVE_TIME_INTERVAL, START, DURATION, P_MAX, DC_EVSE_CHARGE_PARAMETER, DC_EVSE_STATUS, EVSE_MAXIMUM_CURRENT_LIMIT, EVSE_MAXIMUM_POWER_LIMIT, EVSE_MAXIMUM_VOLTAGE_LIMIT, EVSE_MINIMUM_CURRENT_LIMIT, EVSE_MINIMUM_VOLTAGE_LIMIT, EVSE_PEAK_CURRENT_RIPPLE}
use Rattle.din_schema.specs.declared.kinds.TheConstants.{SHORT_KIND, UNSIGNED_INT_KIND}
use Rattle.message_tables.specs.Tables.{Table, inside, rows, natural, integer, simple, holding, meaning, nothing, once, perhaps, each, always, ◌▷◌}
use Rattle.message_tables.specs.Values.{list_of, Entry, entries_of, least_of}
use Rattle.message_tables.specs.Meanings.{CarStatus}
use Rattle.din_tables.specs.Codes.{response_code, step, wanted_mode}
use Rattle.din_tables.specs.Values.{current, voltage, power, whole_watts, car_status, post_status}

-- ---- of a car

abbrev pub CarParameters : Type 0
CarParameters = CarStatus × (Amount × (Option Amount × (Amount × Unit {0})))

abbrev pub car_parameters : Table inside CarParameters
car_parameters = holding (
    once DC_EV_STATUS car_status
    ▷ once EV_MAXIMUM_CURRENT_LIMIT current
    ▷ perhaps EV_MAXIMUM_POWER_LIMIT power
    ▷ once EV_MAXIMUM_VOLTAGE_LIMIT voltage
    ▷ nothing)

abbrev pub ParametersReq : Type 0
ParametersReq = Mode × (CarParameters × Unit {0})

abbrev pub parameters_req : Table rows ParametersReq
parameters_req =
    once EV_REQUESTED_ENERGY_TRANSFER_TYPE wanted_mode
    ▷ once DC_EV_CHARGE_PARAMETER car_parameters
    ▷ nothing

abbrev pub parameters_asked : ParametersReq → Ask
parameters_asked (mode, (((ready, (soc, end)), (current, (watts, (voltage, more)))), last)) =
    ask.ChargeParameters mode (car.Dc ready soc current watts voltage)

-- ---- schedules

abbrev pub schedule_entry : Table inside Entry
schedule_entry = holding (
    once RELATIVE_TIME_INTERVAL (holding (
    once START (simple natural UNSIGNED_INT_KIND)
    ▷ always DURATION (simple natural UNSIGNED_INT_KIND) 86400
    ▷ nothing))
    ▷ once P_MAX whole_watts
    ▷ nothing)

abbrev pub tuple_of : ℤ → List Entry → Tuple
tuple_of id entries = record {
  id = id;
  entries = length entries;
  least = record { size = least_of (map (λ e. e.1.0.size) entries); right = true };
}

-- of up to so many entries: the declarations allow 128
abbrev pub tuple_up_to : ℕ → Table inside Tuple
tuple_up_to most = meaning (λ x. tuple_of x.0 x.1.0.0) (λ t. (t.id, ((entries_of t, tt), tt))) (holding (
    once SA_SCHEDULE_TUPLE_ID (simple integer SHORT_KIND)
    ▷ once P_MAX_SCHEDULE (holding (
    always P_MAX_SCHEDULE_ID (simple integer SHORT_KIND) (pos 1)
    ▷ each P_MAX_SCHEDULE_ENTRY 1 most schedule_entry
    ▷ nothing))
    ▷ nothing))

abbrev pub tuple : Table inside Tuple
tuple = tuple_up_to 128

abbrev pub schedules_up_to : ℕ → Table inside (List Tuple)
schedules_up_to most = list_of SA_SCHEDULE_TUPLE 1 3 (tuple_up_to most)

abbrev pub schedules : Table inside (List Tuple)
schedules = schedules_up_to 128

-- ---- of a post

abbrev pub PostParameters : Type 0
PostParameters = DcStatus × (Amount × (Option Amount × (Amount × (Amount × (Amount × (Amount × Unit {0}))))))

abbrev pub post_parameters : Table inside PostParameters
post_parameters = holding (
    once DC_EVSE_STATUS post_status
    ▷ once EVSE_MAXIMUM_CURRENT_LIMIT current
    ▷ perhaps EVSE_MAXIMUM_POWER_LIMIT power
    ▷ once EVSE_MAXIMUM_VOLTAGE_LIMIT voltage
    ▷ once EVSE_MINIMUM_CURRENT_LIMIT current
    ▷ once EVSE_MINIMUM_VOLTAGE_LIMIT voltage
    ▷ once EVSE_PEAK_CURRENT_RIPPLE current
    ▷ nothing)

abbrev pub Parameters : Type 0
Parameters = Processing × (Option (List Tuple) × (PostParameters × Unit {0}))

abbrev pub parameters_res_up_to : ℕ → Table rows (Code × Parameters)
parameters_res_up_to most =
    once RESPONSE_CODE response_code
    ▷ once EVSE_PROCESSING step
    ▷ perhaps SA_SCHEDULE_LIST (schedules_up_to most)
    ▷ once DC_EVSE_CHARGE_PARAMETER post_parameters
    ▷ nothing

abbrev pub parameters_res : Table rows (Code × Parameters)
parameters_res = parameters_res_up_to 128

abbrev pub limits_of : PostParameters → PostLimits
limits_of (status, (current, (watts, (voltage, (least_current, (least_voltage, (ripple, end))))))) =
    limits.Dc status current watts voltage least_current least_voltage ripple

abbrev pub parameters_told : Parameters → Tell
parameters_told x = tell.ChargeParameters x.0 (option_map (λ tuples. record { items = tuples }) x.1.0) (limits_of x.1.1.0)
