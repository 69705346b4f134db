-- DIN SPEC 70121:2014 9.4 (messages of charging): what stands where in them, and what it asks or tells.
use Rattle.std.specs.Prelude.{max, fold, map, ℤ, Bool, true, false, List, [], ◌∷◌, Option, Some, None}
use Rattle.std.specs.Option.{option_map}
use Rattle.session_words.specs.declared.amount.Amount.{Amount}
use Rattle.session_words.specs.declared.code.Code.{Code}
use Rattle.session_words.specs.declared.code.Progress.{Progress}
use Rattle.session_words.specs.declared.code.Progress.TheVariants as progress
use Rattle.session_words.specs.declared.limits.DcStatus.{DcStatus}
use Rattle.session_words.specs.declared.limits.PostStatus.TheVariants as post
use Rattle.session_words.specs.declared.word.Ask.{Ask}
use Rattle.session_words.specs.declared.word.Ask.TheVariants as ask
use Rattle.session_words.specs.declared.word.Tell.{Tell}
use Rattle.session_words.specs.declared.word.Tell.TheVariants as tell
use Rattle.din_schema.specs.declared.names.TheConstants.{RESPONSE_CODE, EVSE_PROCESSING, DC_EV_STATUS, DC_EVSE_STATUS, EV_TARGET_CURRENT, EV_TARGET_VOLTAGE, CHARGING_COMPLETE, EVSE_PRESENT_VOLTAGE, EVSE_PRESENT_CURRENT, EVSE_CURRENT_LIMIT_ACHIEVED, EVSE_VOLTAGE_LIMIT_ACHIEVED, EVSE_POWER_LIMIT_ACHIEVED, EVSE_MAXIMUM_VOLTAGE_LIMIT, EVSE_MAXIMUM_CURRENT_LIMIT, EVSE_MAXIMUM_POWER_LIMIT, READY_TO_CHARGE_STATE, CHARGING_PROFILE, SA_SCHEDULE_TUPLE_ID, PROFILE_ENTRY, CHARGING_PROFILE_ENTRY_START, CHARGING_PROFILE_ENTRY_MAX_POWER}
use Rattle.din_schema.specs.declared.kinds.TheConstants.{BOOLEAN_KIND, SHORT_KIND, UNSIGNED_INT_KIND}
use Rattle.message_tables.specs.Tables.{Table, inside, rows, flag, natural, integer, simple, holding, meaning, nothing, once, perhaps, each, always, ◌▷◌}
pub use Rattle.message_tables.specs.Meanings.{CarStatus, Car, Present, cable_check_asked, CableCheck, cable_check_told, PreCharge, pre_charge_asked, pre_charge_told, DemandReq, demand_asked, welding_asked, welding_told}
use Rattle.din_tables.specs.Codes.{response_code, step}
use Rattle.din_tables.specs.Values.{current, voltage, power, whole_watts, car_status, post_status}

-- ---- what several have: the status of the car, or of the post and a voltage

abbrev pub car_alone : Table rows Car
car_alone = once DC_EV_STATUS car_status ▷ nothing

abbrev pub present_voltage : Table rows (Code × Present)
present_voltage =
    once RESPONSE_CODE response_code
    ▷ once DC_EVSE_STATUS post_status
    ▷ once EVSE_PRESENT_VOLTAGE voltage
    ▷ nothing

-- ---- CableCheck

abbrev pub cable_check_res : Table rows (Code × CableCheck)
cable_check_res =
    once RESPONSE_CODE response_code
    ▷ once DC_EVSE_STATUS post_status
    ▷ once EVSE_PROCESSING step
    ▷ nothing

-- ---- PreCharge

abbrev pub pre_charge_req : Table rows PreCharge
pre_charge_req =
    once DC_EV_STATUS car_status
    ▷ once EV_TARGET_VOLTAGE voltage
    ▷ once EV_TARGET_CURRENT current
    ▷ nothing

-- ---- PowerDelivery: perhaps a profile, of which a word has the greatest power. It is written as one entry from second 0 on

abbrev pub profile_entry : Table inside (Amount × Unit {0})
profile_entry = holding (
    always CHARGING_PROFILE_ENTRY_START (simple natural UNSIGNED_INT_KIND) 0
    ▷ once CHARGING_PROFILE_ENTRY_MAX_POWER whole_watts
    ▷ nothing)

abbrev pub most_of : List (Amount × Unit {0}) → Amount
most_of entries = record { size = fold max 0 (map (λ e. e.0.size) entries); right = true }

abbrev pub Profile : Type 0
Profile = ℤ × Amount

abbrev pub profile : Table inside Profile
profile = meaning (λ x. (x.0, most_of x.1.0)) (λ p. (p.0, ((p.1, tt) ∷ [], tt))) (holding (
    once SA_SCHEDULE_TUPLE_ID (simple integer SHORT_KIND)
    ▷ each PROFILE_ENTRY 1 24 profile_entry
    ▷ nothing))

abbrev pub DeliveryReq : Type 0
DeliveryReq = Bool × (Option Profile × Unit {0})

abbrev pub delivery_req : Table rows DeliveryReq
delivery_req =
    once READY_TO_CHARGE_STATE (simple flag BOOLEAN_KIND)
    ▷ perhaps CHARGING_PROFILE profile
    ▷ nothing

-- ReadyToChargeState starts or stops
abbrev pub progress_of : Bool → Progress
progress_of true = progress.Start
progress_of false = progress.Stop

abbrev pub is_start : Progress → Bool
is_start progress.Start = true
is_start other = false

abbrev pub delivery_asked : DeliveryReq → Ask
delivery_asked x = ask.PowerDelivery (progress_of x.0) (option_map (λ p. p.0) x.1.0) (option_map (λ p. p.1) x.1.0)

-- there is a profile where a word has its tuple and its power
abbrev pub profile_if : Option ℤ → Option Amount → Option Profile
profile_if (Some tuple) (Some watts) = Some (tuple, watts)
profile_if (Some tuple) None = None
profile_if None watts = None

abbrev pub Status : Type 0
Status = DcStatus × Unit {0}

abbrev pub delivery_res : Table rows (Code × Status)
delivery_res =
    once RESPONSE_CODE response_code
    ▷ once DC_EVSE_STATUS post_status
    ▷ nothing

abbrev pub delivery_told : Status → Tell
delivery_told x = tell.PowerDelivery (post.Dc x.0)

-- ---- CurrentDemand

abbrev pub demand_req : Table rows DemandReq
demand_req =
    once DC_EV_STATUS car_status
    ▷ once EV_TARGET_CURRENT current
    ▷ always CHARGING_COMPLETE (simple flag BOOLEAN_KIND) false
    ▷ once EV_TARGET_VOLTAGE voltage
    ▷ nothing

abbrev pub Demand : Type 0
Demand = DcStatus × (Amount × (Amount × (Bool × (Bool × (Bool × (Option Amount × (Option Amount × (Option Amount × Unit {0}))))))))

abbrev pub demand_res : Table rows (Code × Demand)
demand_res =
    once RESPONSE_CODE response_code
    ▷ once DC_EVSE_STATUS post_status
    ▷ once EVSE_PRESENT_VOLTAGE voltage
    ▷ once EVSE_PRESENT_CURRENT current
    ▷ once EVSE_CURRENT_LIMIT_ACHIEVED (simple flag BOOLEAN_KIND)
    ▷ once EVSE_VOLTAGE_LIMIT_ACHIEVED (simple flag BOOLEAN_KIND)
    ▷ once EVSE_POWER_LIMIT_ACHIEVED (simple flag BOOLEAN_KIND)
    ▷ perhaps EVSE_MAXIMUM_VOLTAGE_LIMIT voltage
    ▷ perhaps EVSE_MAXIMUM_CURRENT_LIMIT current
    ▷ perhaps EVSE_MAXIMUM_POWER_LIMIT power
    ▷ nothing

abbrev pub demand_told : Demand → Tell
demand_told (status, (v, (a, (a_cut, (v_cut, (w_cut, (most_v, (most_a, (most_w, end))))))))) =
    tell.CurrentDemand status v a a_cut v_cut w_cut most_v most_a most_w None
