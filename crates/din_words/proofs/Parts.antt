-- What the tables read of parts of a message that stand behind others which may be absent, or are one of several.
use Rattle.std.proofs.Common.{◌≡◌, ℕ, Bool, true, ℤ, List, [], ◌∷◌, map, length, Option, Some, None, refl, ◌∙◌, ap, ap₂}
use Rattle.std.proofs.lemmas.List.{length-map}
use Rattle.std.specs.Prelude.{max, fold}
use Rattle.std.specs.Option.{option_map}
use Rattle.arrayvec.specs.ArrayVec.{ArrayVec}
use Rattle.exi_documents.specs.Trees.{Ordinal}
use Rattle.message_parts.specs.Contents.{Inside, Of, holding}
use Rattle.session_words.specs.Amounts.{above_zero}
use Rattle.session_words.specs.declared.amount.Amount.{Amount}
use Rattle.session_words.specs.declared.mode.Mode.{Mode}
use Rattle.session_words.specs.declared.limits.PostStatus.TheVariants as post
use Rattle.session_words.specs.declared.limits.Tuple.{Tuple}
use Rattle.session_words.specs.declared.word.Ask.TheVariants as ask
use Rattle.session_words.specs.declared.word.Tell.TheVariants as tell
use Rattle.tree_words.specs.Named.{children}
use Rattle.tree_words.proofs.Held.{kept_each, held, children_held}
use Rattle.tree_words.proofs.Lists.{counts_each}
use Rattle.din_parts.specs.Codes.{energy_transfer_mode_ordinal, evse_processing_ordinal}
use Rattle.din_parts.specs.Values.{evse_status_inside}
use Rattle.din_parts.specs.declared.codes.EnergyTransferMode.{EnergyTransferMode}
use Rattle.din_parts.specs.declared.codes.EvseProcessing.{EvseProcessing}
use Rattle.din_parts.specs.declared.codes.ResponseCode.{ResponseCode}
use Rattle.din_parts.specs.declared.values.EvseStatus.{EvseStatus}
use Rattle.din_parts.specs.declared.values.EvseStatus.TheVariants as evse
use Rattle.din_setup.specs.Selection.{selected_service_parts, selected_service_list_parts}
use Rattle.din_setup.specs.declared.selection.SelectedService.{SelectedService}
use Rattle.din_setup.specs.declared.selection.SelectedServiceList.{SelectedServiceList}
use Rattle.din_power.specs.Charging.{current_demand_req_parts, current_demand_res_parts}
use Rattle.din_power.specs.Delivery.{profile_entry_parts, charging_profile_parts, power_delivery_req_parts, power_delivery_res_parts}
use Rattle.din_power.specs.Discovery.{charge_parameter_discovery_req_parts, charge_parameter_discovery_res_parts}
use Rattle.din_power.specs.Limits.{dc_ev_charge_parameter_parts, dc_evse_charge_parameter_parts, ev_charge_parameter_inside, evse_charge_parameter_inside}
use Rattle.din_power.specs.Schedules.{p_max_schedule_entry_parts, p_max_schedule_parts, sa_schedule_tuple_parts, sa_schedule_list_parts, sa_schedules_inside}
use Rattle.din_power.specs.declared.charging.CurrentDemandReq.{CurrentDemandReq}
use Rattle.din_power.specs.declared.charging.CurrentDemandRes.{CurrentDemandRes}
use Rattle.din_power.specs.declared.delivery.ChargingProfile.{ChargingProfile}
use Rattle.din_power.specs.declared.delivery.EvPowerDeliveryParameter.{EvPowerDeliveryParameter}
use Rattle.din_power.specs.declared.delivery.EvPowerDeliveryParameter.TheVariants as delivery
use Rattle.din_power.specs.declared.delivery.PowerDeliveryReq.{PowerDeliveryReq}
use Rattle.din_power.specs.declared.delivery.PowerDeliveryRes.{PowerDeliveryRes}
use Rattle.din_power.specs.declared.delivery.ProfileEntry.{ProfileEntry}
use Rattle.din_power.specs.declared.discovery.ChargeParameterDiscoveryReq.{ChargeParameterDiscoveryReq}
use Rattle.din_power.specs.declared.discovery.ChargeParameterDiscoveryRes.{ChargeParameterDiscoveryRes}
use Rattle.din_power.specs.declared.limits.DcEvChargeParameter.{DcEvChargeParameter}
use Rattle.din_power.specs.declared.limits.DcEvseChargeParameter.{DcEvseChargeParameter}
use Rattle.din_power.specs.declared.limits.EvChargeParameter.{EvChargeParameter}
use Rattle.din_power.specs.declared.limits.EvChargeParameter.TheVariants as ev
use Rattle.din_power.specs.declared.limits.EvseChargeParameter.{EvseChargeParameter}
use Rattle.din_power.specs.declared.limits.EvseChargeParameter.TheVariants as limits
use Rattle.din_power.specs.declared.schedules.PMaxScheduleEntry.{PMaxScheduleEntry}
use Rattle.din_power.specs.declared.schedules.SaScheduleList.{SaScheduleList}
use Rattle.din_power.specs.declared.schedules.SaScheduleTuple.{SaScheduleTuple}
use Rattle.din_power.specs.declared.schedules.SaSchedules.{SaSchedules}
use Rattle.din_power.specs.declared.schedules.SaSchedules.TheVariants as schedule
use Rattle.din_power.specs.declared.schedules.TimeInterval.{TimeInterval}
use Rattle.din_power.specs.declared.schedules.TimeInterval.TheVariants as interval
use Rattle.din_schema.specs.declared.names.TheConstants.{SELECTED_SERVICE, PROFILE_ENTRY, P_MAX_SCHEDULE_ENTRY, SA_SCHEDULE_TUPLE}
use Rattle.word_tables.specs.Tables.{read}
use Rattle.word_tables.proofs.Held.{parts_read, read_held, held_read}
use Rattle.message_tables.specs.Values.{list_of, least_of}
use Rattle.message_tables.proofs.Lists.{list_read}
use Rattle.din_tables.specs.Codes.{step, wanted_mode}
use Rattle.din_tables.specs.Values.{post_status}
use Rattle.din_tables.specs.Setup.{service}
use Rattle.din_tables.specs.Power.{profile_entry, most_of, profile, delivery_req, progress_of, delivery_asked, delivery_res, delivery_told, demand_req, demand_asked, demand_res, demand_told}
use Rattle.din_tables.specs.Parameters.{schedule_entry, tuple_of, tuple, schedules, car_parameters, parameters_req, parameters_asked, post_parameters, parameters_res, limits_of, parameters_told}

-- ---- services

abbrev pub service_id : SelectedService → ℕ
service_id s = s.service_id

pub services_read : (l : SelectedServiceList)
    → read (list_of SELECTED_SERVICE 1 16 service) (holding (selected_service_list_parts l)) ≡ map service_id l.selected_service.items
services_read l = list_read SELECTED_SERVICE 1 16 service (λ s. holding (selected_service_parts s)) service_id (λ s. refl) l.selected_service.items

-- ---- power delivery

abbrev pub entry_watts : ProfileEntry → ℕ
entry_watts e = above_zero e.charging_profile_entry_max_power

entries_read : (es : List ProfileEntry)
    → map (λ e. e.0.size) (map (λ i. read profile_entry i) (kept_each true (map (λ e. holding (profile_entry_parts e)) es) [])) ≡ map entry_watts es
entries_read [] = refl
entries_read (e ∷ es) = ap (λ ns. entry_watts e ∷ ns) (entries_read es)

abbrev pub whole : ℕ → Amount
whole size = record { size = size; right = true }

pub profile_read : (p : ChargingProfile)
    → (read profile (holding (charging_profile_parts p))).1 ≡ whole (fold max 0 (map entry_watts p.profile_entry.items))
profile_read p =
    ap (λ c. most_of (map (λ i. read profile_entry i) (c PROFILE_ENTRY))) (children_held [] (charging_profile_parts p))
    ∙ ap (λ ns. whole (fold max 0 ns)) (entries_read p.profile_entry.items)

delivery_with : (ready : Bool) (p : Option ChargingProfile) (e : Option EvPowerDeliveryParameter)
    → delivery_asked (read delivery_req (children (holding (power_delivery_req_parts (record {
      ready_to_charge_state = ready;
      charging_profile = p;
      ev_power_delivery_parameter = e;
    })))))
    ≡ ask.PowerDelivery (progress_of ready) (option_map (λ x. x.sa_schedule_tuple_id) p)
    (option_map (λ x. (read profile (holding (charging_profile_parts x))).1) p)
delivery_with ready None None = refl
delivery_with ready None (Some (delivery.Dc x)) = refl
delivery_with ready (Some p) None = refl
delivery_with ready (Some p) (Some e) = refl

pub delivery_req_read : (r : PowerDeliveryReq) → delivery_asked (read delivery_req (children (holding (power_delivery_req_parts r))))
    ≡ ask.PowerDelivery (progress_of r.ready_to_charge_state) (option_map (λ x. x.sa_schedule_tuple_id) r.charging_profile)
    (option_map (λ x. (read profile (holding (charging_profile_parts x))).1) r.charging_profile)
delivery_req_read r = delivery_with r.ready_to_charge_state r.charging_profile r.ev_power_delivery_parameter

delivery_of : (code : ResponseCode) (s : EvseStatus)
    → delivery_told (read delivery_res (children (holding (power_delivery_res_parts (record { response_code = code; evse_status = s }))))).1
    ≡ tell.PowerDelivery (post.Dc (read post_status (evse_status_inside s)))
delivery_of code (evse.Dc s) = refl

pub delivery_res_read : (r : PowerDeliveryRes) → delivery_told (read delivery_res (children (holding (power_delivery_res_parts r)))).1
    ≡ tell.PowerDelivery (post.Dc (read post_status (evse_status_inside r.evse_status)))
delivery_res_read r = delivery_of r.response_code r.evse_status

-- ---- current demand

pub demand_req_read : (x : CurrentDemandReq) → demand_asked (read demand_req (children (holding (current_demand_req_parts x))))
    ≡ demand_asked (read demand_req (held (current_demand_req_parts x)))
demand_req_read x = ap demand_asked (parts_read demand_req (current_demand_req_parts x))

pub demand_res_read : (x : CurrentDemandRes) → demand_told (read demand_res (children (holding (current_demand_res_parts x)))).1
    ≡ demand_told (read demand_res (held (current_demand_res_parts x))).1
demand_res_read x = ap (λ y. demand_told y.1) (parts_read demand_res (current_demand_res_parts x))

-- ---- schedules

abbrev pub entry_power : PMaxScheduleEntry → ℕ
entry_power e = above_zero e.p_max

abbrev entry : TimeInterval → ℤ → Inside
entry t watts = holding (p_max_schedule_entry_parts (record { time_interval = t; p_max = watts }))

entry_read : (t : TimeInterval) (watts : ℤ) → (read schedule_entry (entry t watts)).1.0.size ≡ above_zero watts
entry_read (interval.Relative t) watts = refl

powers_read : (es : List PMaxScheduleEntry)
    → map (λ e. e.1.0.size) (map (λ i. read schedule_entry i) (kept_each true (map (λ e. holding (p_max_schedule_entry_parts e)) es) []))
    ≡ map entry_power es
powers_read [] = refl
powers_read (e ∷ es) = ap₂ (λ n ns. n ∷ ns) (entry_read e.time_interval e.p_max) (powers_read es)

abbrev made : ℤ → ℕ → List ℕ → Tuple
made id entries powers = record { id = id; entries = entries; least = whole (least_of powers) }

pub tuple_read : (t : SaScheduleTuple) → read tuple (holding (sa_schedule_tuple_parts t))
    ≡ made t.sa_schedule_tuple_id (length t.p_max_schedule.p_max_schedule_entry.items) (map entry_power t.p_max_schedule.p_max_schedule_entry.items)
tuple_read t =
    let es = t.p_max_schedule.p_max_schedule_entry.items in
    let insides = kept_each true (map (λ e. holding (p_max_schedule_entry_parts e)) es) [] in
    ap (λ c. tuple_of t.sa_schedule_tuple_id (map (λ i. read schedule_entry i) (c P_MAX_SCHEDULE_ENTRY)))
    (children_held [] (p_max_schedule_parts t.p_max_schedule))
    ∙ ap₂ (λ n ns. made t.sa_schedule_tuple_id n ns)
    (length-map insides (λ i. read schedule_entry i) ∙ counts_each (λ e. holding (p_max_schedule_entry_parts e)) es) (powers_read es)

abbrev pub tuple_in : SaScheduleTuple → Tuple
tuple_in t = read tuple (holding (sa_schedule_tuple_parts t))

pub schedules_read : (l : SaScheduleList) → read schedules (holding (sa_schedule_list_parts l)) ≡ map tuple_in l.sa_schedule_tuple.items
schedules_read l = list_read SA_SCHEDULE_TUPLE 1 3 tuple (λ t. holding (sa_schedule_tuple_parts t)) tuple_in (λ t. refl) l.sa_schedule_tuple.items

-- ---- charge parameters

car_of : (m : EnergyTransferMode) (p : EvChargeParameter)
    → parameters_asked (read parameters_req (children (holding (charge_parameter_discovery_req_parts (record {
      ev_requested_energy_transfer_type = m;
      ev_charge_parameter = p;
    })))))
    ≡ parameters_asked (read wanted_mode (Of (Ordinal (energy_transfer_mode_ordinal m))), (read car_parameters (ev_charge_parameter_inside p), tt))
car_of m (ev.Dc x) = refl

pub parameters_req_read : (r : ChargeParameterDiscoveryReq)
    → parameters_asked (read parameters_req (children (holding (charge_parameter_discovery_req_parts r))))
    ≡ parameters_asked (
      read wanted_mode (Of (Ordinal (energy_transfer_mode_ordinal r.ev_requested_energy_transfer_type))),
      (read car_parameters (ev_charge_parameter_inside r.ev_charge_parameter), tt),
    )
parameters_req_read r = car_of r.ev_requested_energy_transfer_type r.ev_charge_parameter

pub car_read : (mode : Mode) (x : DcEvChargeParameter)
    → parameters_asked (mode, (read car_parameters (ev_charge_parameter_inside (ev.Dc x)), tt))
    ≡ parameters_asked (mode, (read_held car_parameters (dc_ev_charge_parameter_parts x), tt))
car_read mode x = ap (λ y. parameters_asked (mode, (y, tt))) (held_read car_parameters (dc_ev_charge_parameter_parts x))

pub post_read : (x : DcEvseChargeParameter) → limits_of (read post_parameters (evse_charge_parameter_inside (limits.Dc x)))
    ≡ limits_of (read_held post_parameters (dc_evse_charge_parameter_parts x))
post_read x = ap limits_of (held_read post_parameters (dc_evse_charge_parameter_parts x))

abbrev vec : List Tuple → ArrayVec Tuple
vec tuples = record { items = tuples }

parameters_with : (code : ResponseCode) (p : EvseProcessing) (s : Option SaSchedules) (l : EvseChargeParameter)
    → parameters_told (read parameters_res (children (holding (charge_parameter_discovery_res_parts (record {
      response_code = code;
      evse_processing = p;
      sa_schedules = s;
      evse_charge_parameter = l;
    }))))).1
    ≡ tell.ChargeParameters (read step (Of (Ordinal (evse_processing_ordinal p)))) (option_map (λ x. vec (read schedules (sa_schedules_inside x))) s)
    (limits_of (read post_parameters (evse_charge_parameter_inside l)))
parameters_with code p None (limits.Dc x) = refl
parameters_with code p (Some (schedule.SaScheduleList y)) (limits.Dc x) = refl

pub parameters_res_read : (r : ChargeParameterDiscoveryRes)
    → parameters_told (read parameters_res (children (holding (charge_parameter_discovery_res_parts r)))).1
    ≡ tell.ChargeParameters (read step (Of (Ordinal (evse_processing_ordinal r.evse_processing))))
    (option_map (λ x. vec (read schedules (sa_schedules_inside x))) r.sa_schedules)
    (limits_of (read post_parameters (evse_charge_parameter_inside r.evse_charge_parameter)))
parameters_res_read r = parameters_with r.response_code r.evse_processing r.sa_schedules r.evse_charge_parameter
