-- ISO 15118-2:2014 8.4.3.9, 8.4.4 and 8.4.5 (messages of charging): what stands where in them, and what it asks or tells.
use Rattle.std.specs.Prelude.{max, fold, map, ℕ, ℤ, pos, Bool, false, List, [], ◌∷◌, Option, Some, None, ◌⊎◌}
use Rattle.std.proofs.Common.{inl, inr}
use Rattle.std.specs.List.{list_all}
use Rattle.session_words.specs.declared.amount.Amount.{Amount}
use Rattle.session_words.specs.declared.code.Code.{Code}
use Rattle.session_words.specs.declared.code.Notify.{Notify}
use Rattle.session_words.specs.declared.code.Progress.{Progress}
use Rattle.session_words.specs.declared.limits.DcStatus.{DcStatus}
use Rattle.session_words.specs.declared.limits.EvseId.TheVariants as evse_id
use Rattle.session_words.specs.declared.limits.PostStatus.{PostStatus}
use Rattle.session_words.specs.declared.limits.PostStatus.TheVariants as post
use Rattle.session_words.specs.declared.word.Ask.{Ask}
use Rattle.session_words.specs.declared.word.Ask.TheVariants as ask
use Rattle.session_words.specs.declared.word.Tell.{Tell}
use Rattle.session_words.specs.declared.word.Tell.TheVariants as tell
use Rattle.iso_schema.specs.declared.names.TheConstants.{RESPONSE_CODE, EVSE_PROCESSING, DC_EV_STATUS, AC_EVSE_STATUS, DC_EVSE_STATUS, EVSEID, EV_TARGET_CURRENT, EV_TARGET_VOLTAGE, CHARGING_COMPLETE, EVSE_PRESENT_VOLTAGE, EVSE_PRESENT_CURRENT, EVSE_CURRENT_LIMIT_ACHIEVED, EVSE_VOLTAGE_LIMIT_ACHIEVED, EVSE_POWER_LIMIT_ACHIEVED, EVSE_MAXIMUM_VOLTAGE_LIMIT, EVSE_MAXIMUM_CURRENT_LIMIT, EVSE_MAXIMUM_POWER_LIMIT, EVSE_MAX_CURRENT, CHARGE_PROGRESS, CHARGING_PROFILE, SA_SCHEDULE_TUPLE_ID, PROFILE_ENTRY, CHARGING_PROFILE_ENTRY_START, CHARGING_PROFILE_ENTRY_MAX_POWER}
use Rattle.iso_schema.specs.declared.kinds.TheConstants.{BOOLEAN_KIND, TUPLE_ID_KIND, UNSIGNED_INT_KIND}
use Rattle.message_tables.specs.Tables.{Table, inside, rows, flag, natural, integer, simple, holding, meaning, nothing, once, perhaps, either, always, ◌▷◌}
use Rattle.message_tables.specs.Values.{list_of}
pub use Rattle.message_tables.specs.Meanings.{CarStatus, Car, Present, cable_check_asked, CableCheck, cable_check_told, PreCharge, pre_charge_asked, pre_charge_told, DemandReq, demand_asked, welding_asked, welding_told}
use Rattle.iso_tables.specs.Codes.{response_code, step, charge_progress}
use Rattle.iso_tables.specs.Values.{current, voltage, power, evse, car_status, ac_status, dc_status}

-- ---- what several have: the status of the car, or of the post and a voltage

abbrev pub car_alone : Table rows Car
car_alone = once DC_EV_STATUS car_status ▷ nothing

abbrev pub present_voltage : Table rows (Code × Present)
present_voltage =
    once RESPONSE_CODE response_code
    ▷ once DC_EVSE_STATUS dc_status
    ▷ once EVSE_PRESENT_VOLTAGE voltage
    ▷ nothing

-- ---- CableCheck

abbrev pub cable_check_res : Table rows (Code × CableCheck)
cable_check_res =
    once RESPONSE_CODE response_code
    ▷ once DC_EVSE_STATUS dc_status
    ▷ once EVSE_PROCESSING step
    ▷ nothing

-- ---- PreCharge

abbrev pub pre_charge_req : Table rows PreCharge
pre_charge_req =
    once DC_EV_STATUS car_status
    ▷ once EV_TARGET_VOLTAGE voltage
    ▷ once EV_TARGET_CURRENT current
    ▷ nothing

-- ---- PowerDelivery: perhaps a profile, of which a word has the greatest power, right where all its units are. It is written as one entry
-- from second 0 on

abbrev pub profile_entry : Table inside Amount
profile_entry = meaning (λ x. x.0) (λ a. (a, tt)) (holding (
    always CHARGING_PROFILE_ENTRY_START (simple natural UNSIGNED_INT_KIND) 0
    ▷ once CHARGING_PROFILE_ENTRY_MAX_POWER power
    ▷ nothing))

abbrev pub most_of : List Amount → Amount
most_of powers = record { size = fold max 0 (map (λ a. a.size) powers); right = list_all (λ a. a.right) powers }

abbrev pub profile : Table inside Amount
profile = meaning most_of (λ a. a ∷ []) (list_of PROFILE_ENTRY 1 24 profile_entry)

abbrev pub DeliveryReq : Type 0
DeliveryReq = Progress × (ℤ × (Option Amount × Unit {0}))

abbrev pub delivery_req : Table rows DeliveryReq
delivery_req =
    once CHARGE_PROGRESS charge_progress
    ▷ once SA_SCHEDULE_TUPLE_ID (simple integer TUPLE_ID_KIND)
    ▷ perhaps CHARGING_PROFILE profile
    ▷ nothing

abbrev pub delivery_asked : DeliveryReq → Ask
delivery_asked x = ask.PowerDelivery x.0 (Some x.1.0) x.1.1.0

-- the schedule tuple, 1 where a word has none
abbrev pub tuple_or_first : Option ℤ → ℤ
tuple_or_first None = pos 1
tuple_or_first (Some tuple) = tuple

abbrev pub Status : Type 0
Status = (Notify ⊎ DcStatus) × Unit {0}

abbrev pub status_row : Table rows Status
status_row = either AC_EVSE_STATUS ac_status DC_EVSE_STATUS dc_status ▷ nothing

abbrev pub delivery_res : Table rows (Code × Status)
delivery_res = once RESPONSE_CODE response_code ▷ status_row

abbrev pub status_told : Notify ⊎ DcStatus → PostStatus
status_told (inl notify) = post.Ac notify
status_told (inr status) = post.Dc status

abbrev pub status_parts : PostStatus → Notify ⊎ DcStatus
status_parts (post.Ac notify) = inl notify
status_parts (post.Dc status) = inr status

abbrev pub delivery_told : Status → Tell
delivery_told x = tell.PowerDelivery (status_told x.0)

-- ---- CurrentDemand: of schedule tuple 1

abbrev pub demand_req : Table rows DemandReq
demand_req =
    once DC_EV_STATUS car_status
    ▷ once EV_TARGET_CURRENT current
    ▷ always CHARGING_COMPLETE (simple flag BOOLEAN_KIND) false
    ▷ once EV_TARGET_VOLTAGE voltage
    ▷ nothing

abbrev pub Limits : Type 0
Limits = Option Amount × (Option Amount × (Option Amount × (List ℕ × Unit {0})))

abbrev pub Demand : Type 0
Demand = DcStatus × (Amount × (Amount × (Bool × (Bool × (Bool × Limits)))))

abbrev pub limit_rows : Table rows Limits
limit_rows =
    perhaps EVSE_MAXIMUM_VOLTAGE_LIMIT voltage
    ▷ perhaps EVSE_MAXIMUM_CURRENT_LIMIT current
    ▷ perhaps EVSE_MAXIMUM_POWER_LIMIT power
    ▷ once EVSEID evse
    ▷ always SA_SCHEDULE_TUPLE_ID (simple natural TUPLE_ID_KIND) 1
    ▷ nothing

abbrev pub demand_res : Table rows (Code × Demand)
demand_res =
    once RESPONSE_CODE response_code
    ▷ once DC_EVSE_STATUS dc_status
    ▷ once EVSE_PRESENT_VOLTAGE voltage
    ▷ once EVSE_PRESENT_CURRENT current
    ▷ once EVSE_CURRENT_LIMIT_ACHIEVED (simple flag BOOLEAN_KIND)
    ▷ once EVSE_VOLTAGE_LIMIT_ACHIEVED (simple flag BOOLEAN_KIND)
    ▷ once EVSE_POWER_LIMIT_ACHIEVED (simple flag BOOLEAN_KIND)
    ▷ limit_rows

abbrev pub demand_told : Demand → Tell
demand_told (status, (v, (a, (a_cut, (v_cut, (w_cut, (most_v, (most_a, (most_w, (id, end)))))))))) =
    tell.CurrentDemand status v a a_cut v_cut w_cut most_v most_a most_w (Some (evse_id.Text id))

-- ---- ChargingStatus: of schedule tuple 1

abbrev pub Charging : Type 0
Charging = List ℕ × (Option Amount × (Notify × Unit {0}))

abbrev pub charging_res : Table rows (Code × Charging)
charging_res =
    once RESPONSE_CODE response_code
    ▷ once EVSEID evse
    ▷ always SA_SCHEDULE_TUPLE_ID (simple natural TUPLE_ID_KIND) 1
    ▷ perhaps EVSE_MAX_CURRENT current
    ▷ once AC_EVSE_STATUS ac_status
    ▷ nothing

abbrev pub charging_told : Charging → Tell
charging_told x = tell.ChargingStatus x.1.1.0 (evse_id.Text x.0) x.1.0
