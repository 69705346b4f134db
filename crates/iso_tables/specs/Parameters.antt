-- ISO 15118-2:2014 8.4.3.8 (ChargeParameterDiscovery): what stands where in it, and what it asks or tells. Of a schedule a word has the
-- count of its entries and the least power, right where all its units are. They are written from one second to the next, each for a day.
use Rattle.std.specs.Prelude.{ℕ, map, length, ℤ, pos, List, Option, Some, ◌⊎◌}
use Rattle.std.proofs.Common.{inl, inr}
use Rattle.std.specs.List.{list_all}
use Rattle.std.specs.Option.{option_map}
use Rattle.session_words.specs.declared.amount.Amount.{Amount}
use Rattle.session_words.specs.declared.code.Code.{Code}
use Rattle.session_words.specs.declared.code.Notify.{Notify}
use Rattle.session_words.specs.declared.code.Processing.{Processing}
use Rattle.session_words.specs.declared.limits.CarLimits.{CarLimits}
use Rattle.session_words.specs.declared.limits.CarLimits.TheVariants as car
use Rattle.session_words.specs.declared.limits.DcStatus.{DcStatus}
use Rattle.session_words.specs.declared.limits.PostLimits.{PostLimits}
use Rattle.session_words.specs.declared.limits.PostLimits.TheVariants as limits
use Rattle.session_words.specs.declared.limits.Tuple.{Tuple}
use Rattle.session_words.specs.declared.mode.Mode.{Mode}
use Rattle.session_words.specs.declared.word.Ask.{Ask}
use Rattle.session_words.specs.declared.word.Ask.TheVariants as ask
use Rattle.session_words.specs.declared.word.Tell.{Tell}
use Rattle.session_words.specs.declared.word.Tell.TheVariants as tell
use Rattle.iso_schema.specs.declared.names.TheConstants.{RESPONSE_CODE, EVSE_PROCESSING, REQUESTED_ENERGY_TRANSFER_MODE, AC_EV_CHARGE_PARAMETER, DC_EV_CHARGE_PARAMETER, DC_EV_STATUS, E_AMOUNT, EV_MAX_VOLTAGE, EV_MAX_CURRENT, EV_MIN_CURRENT, EV_MAXIMUM_CURRENT_LIMIT, EV_MAXIMUM_POWER_LIMIT, EV_MAXIMUM_VOLTAGE_LIMIT, SA_SCHEDULE_LIST, SA_SCHEDULE_TUPLE, SA_SCHEDULE_TUPLE_ID, P_MAX_SCHEDULE, P_MAX_SCHEDULE_ENTRY, RELATIVE_TIME_INTERVAL, START, DURATION, P_MAX, AC_EVSE_CHARGE_PARAMETER, DC_EVSE_CHARGE_PARAMETER, AC_EVSE_STATUS, DC_EVSE_STATUS, EVSE_NOMINAL_VOLTAGE, EVSE_MAX_CURRENT, EVSE_MAXIMUM_CURRENT_LIMIT, EVSE_MAXIMUM_POWER_LIMIT, EVSE_MAXIMUM_VOLTAGE_LIMIT, EVSE_MINIMUM_CURRENT_LIMIT, EVSE_MINIMUM_VOLTAGE_LIMIT, EVSE_PEAK_CURRENT_RIPPLE}
use Rattle.iso_schema.specs.declared.kinds.TheConstants.{TUPLE_ID_KIND, INTERVAL_START_KIND, INTERVAL_DURATION_KIND}
use Rattle.message_tables.specs.Tables.{Table, inside, rows, natural, integer, simple, holding, meaning, nothing, once, perhaps, either, always, ◌▷◌}
use Rattle.message_tables.specs.Values.{list_of, Entry, entries_of, least_of}
use Rattle.message_tables.specs.Meanings.{CarStatus}
use Rattle.iso_tables.specs.Codes.{response_code, step, wanted_mode}
use Rattle.iso_tables.specs.Values.{Physical, physical, current, voltage, nominal, power_in, spelled_power, power, some_power, car_status, ac_status, dc_status}

-- ---- of a car: where limits of both currents stand, those of AC count

abbrev pub AcCar : Type 0
AcCar = Amount × (Amount × (Amount × Unit {0}))

-- it wants 0 Wh
abbrev pub ac_car : Table inside AcCar
ac_car = holding (
    always E_AMOUNT physical (pos 0, (6, (pos 0, tt)))
    ▷ once EV_MAX_VOLTAGE voltage
    ▷ once EV_MAX_CURRENT current
    ▷ once EV_MIN_CURRENT current
    ▷ nothing)

abbrev pub DcCar : Type 0
DcCar = CarStatus × (Amount × (Option Amount × (Amount × Unit {0})))

abbrev pub dc_car : Table inside DcCar
dc_car = holding (
    once DC_EV_STATUS car_status
    ▷ once EV_MAXIMUM_CURRENT_LIMIT current
    ▷ perhaps EV_MAXIMUM_POWER_LIMIT power
    ▷ once EV_MAXIMUM_VOLTAGE_LIMIT voltage
    ▷ nothing)

abbrev pub car_of : AcCar ⊎ DcCar → CarLimits
car_of (inl (most_voltage, (most_current, (least_current, end)))) = car.Ac most_current least_current most_voltage
car_of (inr ((ready, (soc, end)), (current, (watts, (voltage, more))))) = car.Dc ready soc current watts voltage

abbrev pub car_parts : CarLimits → AcCar ⊎ DcCar
car_parts (car.Ac most_current least_current most_voltage) = inl (most_voltage, (most_current, (least_current, tt)))
car_parts (car.Dc ready soc current watts voltage) = inr ((ready, (soc, tt)), (current, (watts, (voltage, tt))))

abbrev pub CarRow : Type 0
CarRow = (AcCar ⊎ DcCar) × Unit {0}

abbrev pub car_row : Table rows CarRow
car_row = either AC_EV_CHARGE_PARAMETER ac_car DC_EV_CHARGE_PARAMETER dc_car ▷ nothing

abbrev pub ParametersReq : Type 0
ParametersReq = Mode × CarRow

abbrev pub parameters_req : Table rows ParametersReq
parameters_req = once REQUESTED_ENERGY_TRANSFER_MODE wanted_mode ▷ car_row

abbrev pub parameters_asked : ParametersReq → Ask
parameters_asked x = ask.ChargeParameters x.0 (car_of x.1.0)

-- ---- schedules

-- an entry with all that it has: from which second on, and for how many; and the power
abbrev pub EntryRows : Type 0
EntryRows = (ℕ × (Option ℕ × Unit {0})) × (Physical × Unit {0})

abbrev pub entry_rows : Table inside EntryRows
entry_rows = holding (
    once RELATIVE_TIME_INTERVAL (holding (
    once START (simple natural INTERVAL_START_KIND)
    ▷ perhaps DURATION (simple natural INTERVAL_DURATION_KIND)
    ▷ nothing))
    ▷ once P_MAX physical
    ▷ nothing)

abbrev pub schedule_entry : Table inside Entry
schedule_entry =
    meaning (λ x. ((x.0.0, tt), (power_in x.1.0, tt))) (λ e. ((e.0.0, (Some 86400, tt)), (spelled_power e.1.0, tt))) entry_rows

-- a tuple of up to so many such entries, and a list of such tuples
abbrev pub tuple_rows : {E : Type 0} → ℕ → Table inside E → Table inside (ℤ × (List E × Unit {0}))
tuple_rows most entry = holding (
    once SA_SCHEDULE_TUPLE_ID (simple integer TUPLE_ID_KIND)
    ▷ once P_MAX_SCHEDULE (list_of P_MAX_SCHEDULE_ENTRY 1 most entry)
    ▷ nothing)

abbrev pub tuples : {T : Type 0} → Table inside T → Table inside (List T)
tuples tuple = list_of SA_SCHEDULE_TUPLE 1 3 tuple

abbrev pub least_power : List Entry → Amount
least_power entries = record {
  size = least_of (map (λ e. e.1.0.size) entries);
  right = list_all (λ e. e.1.0.right) entries;
}

abbrev pub tuple_of : ℤ → List Entry → Tuple
tuple_of id entries = record { id = id; entries = length entries; least = least_power entries }

-- of up to so many entries: the declarations allow 128
abbrev pub tuple_up_to : ℕ → Table inside Tuple
tuple_up_to most = meaning (λ x. tuple_of x.0 x.1.0) (λ t. (t.id, (entries_of t, tt))) (tuple_rows most schedule_entry)

abbrev pub tuple : Table inside Tuple
tuple = tuple_up_to 128

abbrev pub schedules_up_to : ℕ → Table inside (List Tuple)
schedules_up_to most = tuples (tuple_up_to most)

abbrev pub schedules : Table inside (List Tuple)
schedules = schedules_up_to 128

-- ---- of a post: where limits of both currents stand, those of AC count

abbrev pub AcPost : Type 0
AcPost = Notify × (Amount × (Amount × Unit {0}))

abbrev pub ac_post : Table inside AcPost
ac_post = holding (
    once AC_EVSE_STATUS ac_status
    ▷ once EVSE_NOMINAL_VOLTAGE nominal
    ▷ once EVSE_MAX_CURRENT current
    ▷ nothing)

abbrev pub DcPost : Type 0
DcPost = DcStatus × (Amount × (Option Amount × (Amount × (Amount × (Amount × (Amount × Unit {0}))))))

abbrev pub dc_post : Table inside DcPost
dc_post = holding (
    once DC_EVSE_STATUS dc_status
    ▷ once EVSE_MAXIMUM_CURRENT_LIMIT current
    ▷ once EVSE_MAXIMUM_POWER_LIMIT some_power
    ▷ once EVSE_MAXIMUM_VOLTAGE_LIMIT voltage
    ▷ once EVSE_MINIMUM_CURRENT_LIMIT current
    ▷ once EVSE_MINIMUM_VOLTAGE_LIMIT voltage
    ▷ once EVSE_PEAK_CURRENT_RIPPLE current
    ▷ nothing)

abbrev pub limits_of : AcPost ⊎ DcPost → PostLimits
limits_of (inl (notify, (nominal, (current, end)))) = limits.Ac notify nominal current
limits_of (inr (status, (current, (watts, (voltage, (least_current, (least_voltage, (ripple, end)))))))) =
    limits.Dc status current watts voltage least_current least_voltage ripple

abbrev pub limit_parts : PostLimits → AcPost ⊎ DcPost
limit_parts (limits.Ac notify nominal current) = inl (notify, (nominal, (current, tt)))
limit_parts (limits.Dc status current watts voltage least_current least_voltage ripple) =
    inr (status, (current, (watts, (voltage, (least_current, (least_voltage, (ripple, tt)))))))

abbrev pub PostRow : Type 0
PostRow = (AcPost ⊎ DcPost) × Unit {0}

abbrev pub post_row : Table rows PostRow
post_row = either AC_EVSE_CHARGE_PARAMETER ac_post DC_EVSE_CHARGE_PARAMETER dc_post ▷ nothing

abbrev pub Parameters : Type 0 → Type 0
Parameters T = Processing × (Option (List T) × PostRow)

-- with schedules of such tuples
abbrev pub parameters_with : {T : Type 0} → Table inside T → Table rows (Code × Parameters T)
parameters_with tuple =
    once RESPONSE_CODE response_code
    ▷ once EVSE_PROCESSING step
    ▷ perhaps SA_SCHEDULE_LIST (tuples tuple)
    ▷ post_row

abbrev pub parameters_res_up_to : ℕ → Table rows (Code × Parameters Tuple)
parameters_res_up_to most = parameters_with (tuple_up_to most)

abbrev pub parameters_res : Table rows (Code × Parameters Tuple)
parameters_res = parameters_res_up_to 128

abbrev pub parameters_told : Parameters Tuple → Tell
parameters_told x = tell.ChargeParameters x.0 (option_map (λ tuples. record { items = tuples }) x.1.0) (limits_of x.1.1.0)
