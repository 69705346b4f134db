-- What the tables read of parts of a message that stand behind others which may be absent, or are one of several.
use Rattle.std.proofs.Common.{◌≡◌, ℕ, Bool, true, ◌&&◌, ℤ, pos, List, [], ◌∷◌, map, length, Option, Some, None, inl, inr, refl, ◌∙◌, ap, ap₂}
use Rattle.std.proofs.lemmas.List.{length-map}
use Rattle.std.specs.Prelude.{max, fold}
use Rattle.std.specs.List.{list_all}
use Rattle.std.specs.Option.{option_map}
use Rattle.arrayvec.specs.ArrayVec.{ArrayVec}
use Rattle.exi_documents.specs.Trees.{Ordinal}
use Rattle.message_parts.specs.Contents.{Inside, Of, one, holding}
use Rattle.session_words.specs.declared.amount.Amount.{Amount}
use Rattle.session_words.specs.declared.limits.CarLimits.TheVariants as car
use Rattle.session_words.specs.declared.limits.EvseId.TheVariants as evse_id
use Rattle.session_words.specs.declared.limits.PostLimits.TheVariants as limits
use Rattle.session_words.specs.declared.limits.PostStatus.TheVariants as post
use Rattle.session_words.specs.declared.limits.Tuple.{Tuple}
use Rattle.session_words.specs.declared.word.Ask.TheVariants as ask
use Rattle.session_words.specs.declared.word.Tell.TheVariants as tell
use Rattle.tree_words.specs.Named.{children}
use Rattle.tree_words.proofs.Held.{kept_each, children_held}
use Rattle.tree_words.proofs.Lists.{counts_each, ◌⊛◌}
use Rattle.word_values.specs.Items.{evse_text_of}
use Rattle.iso_parts.specs.Codes.{energy_transfer_mode_ordinal, evse_processing_ordinal, charge_progress_ordinal}
use Rattle.iso_parts.specs.declared.codes.ChargeProgress.{ChargeProgress}
use Rattle.iso_parts.specs.declared.codes.EnergyTransferMode.{EnergyTransferMode}
use Rattle.iso_parts.specs.declared.codes.EvseProcessing.{EvseProcessing}
use Rattle.iso_parts.specs.declared.codes.ResponseCode.{ResponseCode}
use Rattle.iso_parts.specs.declared.values.EvseStatus.{EvseStatus}
use Rattle.iso_parts.specs.declared.values.EvseStatus.TheVariants as evse
use Rattle.iso_parts.specs.declared.values.PhysicalValue.{PhysicalValue}
use Rattle.iso_setup.specs.Selection.{selected_service_parts, selected_service_list_parts}
use Rattle.iso_setup.specs.Services.{supported_energy_transfer_mode_parts, charge_service_parts, service_discovery_res_parts}
use Rattle.iso_setup.specs.declared.selection.SelectedService.{SelectedService}
use Rattle.iso_setup.specs.declared.selection.SelectedServiceList.{SelectedServiceList}
use Rattle.iso_setup.specs.declared.services.ChargeService.{ChargeService}
use Rattle.iso_setup.specs.declared.services.ServiceDiscoveryRes.{ServiceDiscoveryRes}
use Rattle.iso_setup.specs.declared.services.SupportedEnergyTransferMode.{SupportedEnergyTransferMode}
use Rattle.iso_power.specs.Charging.{current_demand_req_parts, current_demand_res_parts}
use Rattle.iso_power.specs.declared.charging.CurrentDemandReq.{CurrentDemandReq}
use Rattle.iso_power.specs.declared.charging.CurrentDemandRes.{CurrentDemandRes}
use Rattle.iso_delivery.specs.Delivery.{profile_entry_parts, charging_profile_parts, power_delivery_req_parts, power_delivery_res_parts, charging_status_res_parts}
use Rattle.iso_delivery.specs.declared.delivery.ChargingProfile.{ChargingProfile}
use Rattle.iso_delivery.specs.declared.delivery.ChargingStatusRes.{ChargingStatusRes}
use Rattle.iso_delivery.specs.declared.delivery.EvPowerDeliveryParameter.{EvPowerDeliveryParameter}
use Rattle.iso_delivery.specs.declared.delivery.EvPowerDeliveryParameter.TheVariants as delivery
use Rattle.iso_delivery.specs.declared.delivery.PowerDeliveryReq.{PowerDeliveryReq}
use Rattle.iso_delivery.specs.declared.delivery.PowerDeliveryRes.{PowerDeliveryRes}
use Rattle.iso_delivery.specs.declared.delivery.ProfileEntry.{ProfileEntry}
use Rattle.iso_parameters.specs.Discovery.{charge_parameter_discovery_req_parts, charge_parameter_discovery_res_parts}
use Rattle.iso_parameters.specs.Limits.{ac_ev_charge_parameter_parts, dc_ev_charge_parameter_parts, dc_evse_charge_parameter_parts, ev_charge_parameter_name, ev_charge_parameter_inside, evse_charge_parameter_name, evse_charge_parameter_inside}
use Rattle.iso_parameters.specs.declared.discovery.ChargeParameterDiscoveryReq.{ChargeParameterDiscoveryReq}
use Rattle.iso_parameters.specs.declared.discovery.ChargeParameterDiscoveryRes.{ChargeParameterDiscoveryRes}
use Rattle.iso_parameters.specs.declared.limits.AcEvChargeParameter.{AcEvChargeParameter}
use Rattle.iso_parameters.specs.declared.limits.AcEvseChargeParameter.{AcEvseChargeParameter}
use Rattle.iso_parameters.specs.declared.limits.DcEvChargeParameter.{DcEvChargeParameter}
use Rattle.iso_parameters.specs.declared.limits.DcEvseChargeParameter.{DcEvseChargeParameter}
use Rattle.iso_parameters.specs.declared.limits.EvChargeParameter.{EvChargeParameter}
use Rattle.iso_parameters.specs.declared.limits.EvChargeParameter.TheVariants as of_car
use Rattle.iso_parameters.specs.declared.limits.EvseChargeParameter.{EvseChargeParameter}
use Rattle.iso_parameters.specs.declared.limits.EvseChargeParameter.TheVariants as of_post
use Rattle.iso_schedules.specs.Schedules.{p_max_schedule_entry_parts, p_max_schedule_parts, sa_schedule_tuple_parts, sa_schedule_list_parts, sa_schedules_inside}
use Rattle.iso_schedules.specs.declared.schedules.PMaxScheduleEntry.{PMaxScheduleEntry}
use Rattle.iso_schedules.specs.declared.schedules.SaScheduleList.{SaScheduleList}
use Rattle.iso_schedules.specs.declared.schedules.SaScheduleTuple.{SaScheduleTuple}
use Rattle.iso_schedules.specs.declared.schedules.SaSchedules.{SaSchedules}
use Rattle.iso_schedules.specs.declared.schedules.SaSchedules.TheVariants as schedule
use Rattle.iso_schedules.specs.declared.schedules.TimeInterval.{TimeInterval}
use Rattle.iso_schedules.specs.declared.schedules.TimeInterval.TheVariants as interval
use Rattle.iso_schema.specs.declared.names.TheConstants.{SELECTED_SERVICE, ENERGY_TRANSFER_MODE, PROFILE_ENTRY, P_MAX_SCHEDULE_ENTRY, SA_SCHEDULE_TUPLE}
use Rattle.iso_values.specs.Modes.{offered_of}
use Rattle.iso_values.specs.Physical.{voltage_in, current_in, power_in}
use Rattle.iso_values.specs.States.{notify_of}
use Rattle.iso_values.specs.Statuses.{dc_status_of, post_status_of}
use Rattle.word_tables.specs.Tables.{read}
use Rattle.word_tables.proofs.Held.{parts_read, held_read}
use Rattle.message_tables.specs.Values.{list_of, least_of}
use Rattle.message_tables.proofs.Lists.{list_read}
use Rattle.iso_tables.specs.Codes.{step, wanted_mode, offered_mode, charge_progress}
use Rattle.iso_tables.specs.Setup.{service, charge_service, discovery_res, discovery_told}
use Rattle.iso_tables.specs.Power.{profile_entry, most_of, profile, delivery_req, delivery_asked, delivery_res, delivery_told, demand_req, demand_asked, demand_res, demand_told, charging_res, charging_told}
use Rattle.iso_tables.specs.Parameters.{ac_car, dc_car, car_of, car_row, parameters_req, parameters_asked, schedule_entry, tuple_of, tuple, schedules, dc_post, limits_of, post_row, parameters_res, parameters_told}
use Rattle.iso_words.proofs.Values.{voltage_read, current_read, power_read, voltages_read, currents_read, powers_read, offered_read, ac_status_read, status_read}

-- ---- services

abbrev pub service_id : SelectedService → ℕ
service_id s = s.service_id

pub services_read : (l : SelectedServiceList)
    → read (list_of SELECTED_SERVICE 1 16 service) (holding (selected_service_list_parts l)) ≡ map service_id l.selected_service.items
services_read l = list_read SELECTED_SERVICE 1 16 service (λ s. holding (selected_service_parts s)) service_id (λ s. refl) l.selected_service.items

pub modes_read : (l : SupportedEnergyTransferMode)
    → read (list_of ENERGY_TRANSFER_MODE 1 6 offered_mode) (holding (supported_energy_transfer_mode_parts l)) ≡ map offered_of l.energy_transfer_mode.items
modes_read l =
    list_read ENERGY_TRANSFER_MODE 1 6 offered_mode (λ m. Of (Ordinal (energy_transfer_mode_ordinal m))) offered_of offered_read l.energy_transfer_mode.items

service_read : (s : ChargeService) → read charge_service (holding (charge_service_parts s))
    ≡ (s.free_service, (map offered_of s.supported_energy_transfer_mode.energy_transfer_mode.items, tt))
service_read s =
    held_read charge_service (charge_service_parts s) ∙ ap (λ ms. (s.free_service, (ms, tt))) (modes_read s.supported_energy_transfer_mode)

pub discovery_read : (r : ServiceDiscoveryRes) → discovery_told (read discovery_res (children (holding (service_discovery_res_parts r)))).1
    ≡ tell.ServiceDiscovery r.charge_service.free_service
    (record { items = map offered_of r.charge_service.supported_energy_transfer_mode.energy_transfer_mode.items })
discovery_read r = ap (λ x. discovery_told (x, tt)) (service_read r.charge_service)

-- ---- power delivery

abbrev amount : ℕ → Bool → Amount
amount size right = record { size = size; right = right }

abbrev pub profile_power : ProfileEntry → Amount
profile_power e = power_in e.charging_profile_entry_max_power

abbrev profile_insides : List ProfileEntry → List Inside
profile_insides es = kept_each true (map (λ e. holding (profile_entry_parts e)) es) []

profile_sizes : (es : List ProfileEntry) → map (λ a. a.size) (map (λ i. read profile_entry i) (profile_insides es)) ≡ map (λ e. (profile_power e).size) es
profile_sizes [] = refl
profile_sizes (e ∷ es) = ap₂ (λ a ns. a.size ∷ ns) (power_read e.charging_profile_entry_max_power) (profile_sizes es)

profile_rights : (es : List ProfileEntry)
    → list_all (λ a. a.right) (map (λ i. read profile_entry i) (profile_insides es)) ≡ list_all (λ e. (profile_power e).right) es
profile_rights [] = refl
profile_rights (e ∷ es) = ap₂ (λ a b. a.right && b) (power_read e.charging_profile_entry_max_power) (profile_rights es)

pub profile_read : (p : ChargingProfile) → read profile (holding (charging_profile_parts p))
    ≡ amount (fold max 0 (map (λ e. (profile_power e).size) p.profile_entry.items)) (list_all (λ e. (profile_power e).right) p.profile_entry.items)
profile_read p =
    ap (λ c. most_of (map (λ i. read profile_entry i) (c PROFILE_ENTRY))) (children_held [] (charging_profile_parts p))
    ∙ ap₂ (λ ns right. amount (fold max 0 ns) right) (profile_sizes p.profile_entry.items) (profile_rights p.profile_entry.items)

delivery_with : (progress : ChargeProgress) (id : ℕ) (p : Option ChargingProfile) (e : Option EvPowerDeliveryParameter)
    → delivery_asked (read delivery_req (children (holding (power_delivery_req_parts (record {
      charge_progress = progress;
      sa_schedule_tuple_id = id;
      charging_profile = p;
      ev_power_delivery_parameter = e;
    })))))
    ≡ ask.PowerDelivery (read charge_progress (Of (Ordinal (charge_progress_ordinal progress)))) (Some (pos id))
    (option_map (λ x. read profile (holding (charging_profile_parts x))) p)
delivery_with progress id None None = refl
delivery_with progress id None (Some (delivery.Dc x)) = refl
delivery_with progress id (Some p) None = refl
delivery_with progress id (Some p) (Some e) = refl

pub delivery_req_read : (r : PowerDeliveryReq) → delivery_asked (read delivery_req (children (holding (power_delivery_req_parts r))))
    ≡ ask.PowerDelivery (read charge_progress (Of (Ordinal (charge_progress_ordinal r.charge_progress)))) (Some (pos r.sa_schedule_tuple_id))
    (option_map (λ x. read profile (holding (charging_profile_parts x))) r.charging_profile)
delivery_req_read r = delivery_with r.charge_progress r.sa_schedule_tuple_id r.charging_profile r.ev_power_delivery_parameter

delivery_of : (code : ResponseCode) (s : EvseStatus)
    → delivery_told (read delivery_res (children (holding (power_delivery_res_parts (record { response_code = code; evse_status = s }))))).1
    ≡ tell.PowerDelivery (post_status_of s)
delivery_of code (evse.Ac s) = ap (λ n. tell.PowerDelivery (post.Ac n)) (ac_status_read s)
delivery_of code (evse.Dc s) = ap (λ x. tell.PowerDelivery (post.Dc x)) (status_read s)

pub delivery_res_read : (r : PowerDeliveryRes)
    → delivery_told (read delivery_res (children (holding (power_delivery_res_parts r)))).1 ≡ tell.PowerDelivery (post_status_of r.evse_status)
delivery_res_read r = delivery_of r.response_code r.evse_status

-- ---- charging

pub demand_req_read : (x : CurrentDemandReq) → demand_asked (read demand_req (children (holding (current_demand_req_parts x))))
    ≡ ask.CurrentDemand x.dc_ev_status.ev_ready x.dc_ev_status.evress_soc (voltage_in x.ev_target_voltage) (current_in x.ev_target_current)
demand_req_read x =
    ap demand_asked (parts_read demand_req (current_demand_req_parts x))
    ∙ ap₂ (λ v a. ask.CurrentDemand x.dc_ev_status.ev_ready x.dc_ev_status.evress_soc v a) (voltage_read x.ev_target_voltage) (current_read x.ev_target_current)

pub demand_res_read : (x : CurrentDemandRes) → demand_told (read demand_res (children (holding (current_demand_res_parts x)))).1
    ≡ tell.CurrentDemand (dc_status_of x.dc_evse_status) (voltage_in x.evse_present_voltage) (current_in x.evse_present_current)
    x.evse_current_limit_achieved x.evse_voltage_limit_achieved x.evse_power_limit_achieved
    (option_map voltage_in x.evse_maximum_voltage_limit) (option_map current_in x.evse_maximum_current_limit)
    (option_map power_in x.evse_maximum_power_limit) (Some (evse_id.Text (evse_text_of x.evseid)))
demand_res_read x =
    ap (λ y. demand_told y.1) (parts_read demand_res (current_demand_res_parts x))
    ∙ (ap (λ s v a mv ma mw.
    tell.CurrentDemand s v a x.evse_current_limit_achieved x.evse_voltage_limit_achieved x.evse_power_limit_achieved mv ma mw
    (Some (evse_id.Text (evse_text_of x.evseid)))) (status_read x.dc_evse_status)
    ⊛ voltage_read x.evse_present_voltage ⊛ current_read x.evse_present_current
    ⊛ voltages_read x.evse_maximum_voltage_limit ⊛ currents_read x.evse_maximum_current_limit ⊛ powers_read x.evse_maximum_power_limit)

pub charging_res_read : (x : ChargingStatusRes) → charging_told (read charging_res (children (holding (charging_status_res_parts x)))).1
    ≡ tell.ChargingStatus (notify_of x.ac_evse_status.evse_notification) (evse_id.Text (evse_text_of x.evseid)) (option_map current_in x.evse_max_current)
charging_res_read x =
    ap (λ y. charging_told y.1) (parts_read charging_res (charging_status_res_parts x))
    ∙ ap₂ (λ n a. tell.ChargingStatus n (evse_id.Text (evse_text_of x.evseid)) a) (ac_status_read x.ac_evse_status) (currents_read x.evse_max_current)

-- ---- schedules

abbrev pub entry_power : PMaxScheduleEntry → Amount
entry_power e = power_in e.p_max

abbrev entry_insides : List PMaxScheduleEntry → List Inside
entry_insides es = kept_each true (map (λ e. holding (p_max_schedule_entry_parts e)) es) []

entry_read : (t : TimeInterval) (p : PhysicalValue)
    → (read schedule_entry (holding (p_max_schedule_entry_parts (record { time_interval = t; p_max = p })))).1.0 ≡ power_in p
entry_read (interval.Relative t) p = power_read p

entry_sizes : (es : List PMaxScheduleEntry) → map (λ e. e.1.0.size) (map (λ i. read schedule_entry i) (entry_insides es)) ≡ map (λ e. (entry_power e).size) es
entry_sizes [] = refl
entry_sizes (e ∷ es) = ap₂ (λ a ns. a.size ∷ ns) (entry_read e.time_interval e.p_max) (entry_sizes es)

entry_rights : (es : List PMaxScheduleEntry)
    → list_all (λ e. e.1.0.right) (map (λ i. read schedule_entry i) (entry_insides es)) ≡ list_all (λ e. (entry_power e).right) es
entry_rights [] = refl
entry_rights (e ∷ es) = ap₂ (λ a b. a.right && b) (entry_read e.time_interval e.p_max) (entry_rights es)

abbrev pub made : ℤ → ℕ → List ℕ → Bool → Tuple
made id entries sizes right = record { id = id; entries = entries; least = amount (least_of sizes) right }

pub tuple_read : (t : SaScheduleTuple) → read tuple (holding (sa_schedule_tuple_parts t))
    ≡ made (pos t.sa_schedule_tuple_id) (length t.p_max_schedule.p_max_schedule_entry.items)
    (map (λ e. (entry_power e).size) t.p_max_schedule.p_max_schedule_entry.items)
    (list_all (λ e. (entry_power e).right) t.p_max_schedule.p_max_schedule_entry.items)
tuple_read t =
    let es = t.p_max_schedule.p_max_schedule_entry.items in
    ap (λ c. tuple_of (pos t.sa_schedule_tuple_id) (map (λ i. read schedule_entry i) (c P_MAX_SCHEDULE_ENTRY)))
    (children_held [] (p_max_schedule_parts t.p_max_schedule))
    ∙ (ap (λ n ns right. made (pos t.sa_schedule_tuple_id) n ns right)
    (length-map (entry_insides es) (λ i. read schedule_entry i) ∙ counts_each (λ e. holding (p_max_schedule_entry_parts e)) es)
    ⊛ entry_sizes es ⊛ entry_rights es)

abbrev pub tuple_in : SaScheduleTuple → Tuple
tuple_in t = read tuple (holding (sa_schedule_tuple_parts t))

pub schedules_read : (l : SaScheduleList) → read schedules (holding (sa_schedule_list_parts l)) ≡ map tuple_in l.sa_schedule_tuple.items
schedules_read l = list_read SA_SCHEDULE_TUPLE 1 3 tuple (λ t. holding (sa_schedule_tuple_parts t)) tuple_in (λ t. refl) l.sa_schedule_tuple.items

-- ---- what a car can take

abbrev car_seen : EvChargeParameter → ℕ → List Inside
car_seen p = children (holding (one (ev_charge_parameter_name p) (ev_charge_parameter_inside p) ∷ []))

pub ac_car_read : (x : AcEvChargeParameter)
    → car_of (read car_row (children (holding (one (ev_charge_parameter_name (of_car.Ac x)) (ev_charge_parameter_inside (of_car.Ac x)) ∷ [])))).0
    ≡ car.Ac (current_in x.ev_max_current) (current_in x.ev_min_current) (voltage_in x.ev_max_voltage)
ac_car_read x =
    ap (λ y. car_of (inl y)) (held_read ac_car (ac_ev_charge_parameter_parts x))
    ∙ (ap (λ a l v. car.Ac a l v) (current_read x.ev_max_current) ⊛ current_read x.ev_min_current ⊛ voltage_read x.ev_max_voltage)

pub dc_car_read : (x : DcEvChargeParameter)
    → car_of (read car_row (children (holding (one (ev_charge_parameter_name (of_car.Dc x)) (ev_charge_parameter_inside (of_car.Dc x)) ∷ [])))).0
    ≡ car.Dc x.dc_ev_status.ev_ready x.dc_ev_status.evress_soc (current_in x.ev_maximum_current_limit)
    (option_map power_in x.ev_maximum_power_limit) (voltage_in x.ev_maximum_voltage_limit)
dc_car_read x =
    ap (λ y. car_of (inr y)) (held_read dc_car (dc_ev_charge_parameter_parts x))
    ∙ (ap (λ a w v. car.Dc x.dc_ev_status.ev_ready x.dc_ev_status.evress_soc a w v) (current_read x.ev_maximum_current_limit)
    ⊛ powers_read x.ev_maximum_power_limit ⊛ voltage_read x.ev_maximum_voltage_limit)

asked_with : (n : Option ℕ) (m : EnergyTransferMode) (p : EvChargeParameter)
    → parameters_asked (read parameters_req (children (holding (charge_parameter_discovery_req_parts (record {
      max_entries_sa_schedule_tuple = n;
      requested_energy_transfer_mode = m;
      ev_charge_parameter = p;
    })))))
    ≡ ask.ChargeParameters (read wanted_mode (Of (Ordinal (energy_transfer_mode_ordinal m)))) (car_of (read car_row (car_seen p)).0)
asked_with None m (of_car.Ac x) = refl
asked_with None m (of_car.Dc x) = refl
asked_with (Some n) m (of_car.Ac x) = refl
asked_with (Some n) m (of_car.Dc x) = refl

pub parameters_req_read : (r : ChargeParameterDiscoveryReq)
    → parameters_asked (read parameters_req (children (holding (charge_parameter_discovery_req_parts r))))
    ≡ ask.ChargeParameters (read wanted_mode (Of (Ordinal (energy_transfer_mode_ordinal r.requested_energy_transfer_mode))))
    (car_of (read car_row (children (holding (
    one (ev_charge_parameter_name r.ev_charge_parameter) (ev_charge_parameter_inside r.ev_charge_parameter) ∷ []
    )))).0)
parameters_req_read r = asked_with r.max_entries_sa_schedule_tuple r.requested_energy_transfer_mode r.ev_charge_parameter

-- ---- what a post can give

abbrev post_seen : EvseChargeParameter → ℕ → List Inside
post_seen p = children (holding (one (evse_charge_parameter_name p) (evse_charge_parameter_inside p) ∷ []))

pub ac_post_read : (x : AcEvseChargeParameter)
    → limits_of (read post_row (children (holding (
    one (evse_charge_parameter_name (of_post.Ac x)) (evse_charge_parameter_inside (of_post.Ac x)) ∷ []
    )))).0
    ≡ limits.Ac (notify_of x.ac_evse_status.evse_notification) (voltage_in x.evse_nominal_voltage) (current_in x.evse_max_current)
ac_post_read x =
    ap (λ n v a. limits.Ac n v a) (ac_status_read x.ac_evse_status) ⊛ voltage_read x.evse_nominal_voltage ⊛ current_read x.evse_max_current

pub dc_post_read : (x : DcEvseChargeParameter)
    → limits_of (read post_row (children (holding (
    one (evse_charge_parameter_name (of_post.Dc x)) (evse_charge_parameter_inside (of_post.Dc x)) ∷ []
    )))).0
    ≡ limits.Dc (dc_status_of x.dc_evse_status) (current_in x.evse_maximum_current_limit) (Some (power_in x.evse_maximum_power_limit))
    (voltage_in x.evse_maximum_voltage_limit) (current_in x.evse_minimum_current_limit) (voltage_in x.evse_minimum_voltage_limit)
    (current_in x.evse_peak_current_ripple)
dc_post_read x =
    ap (λ y. limits_of (inr y)) (held_read dc_post (dc_evse_charge_parameter_parts x))
    ∙ (ap (λ s a w v la lv r. limits.Dc s a (Some w) v la lv r) (status_read x.dc_evse_status) ⊛ current_read x.evse_maximum_current_limit
    ⊛ power_read x.evse_maximum_power_limit ⊛ voltage_read x.evse_maximum_voltage_limit ⊛ current_read x.evse_minimum_current_limit
    ⊛ voltage_read x.evse_minimum_voltage_limit ⊛ current_read x.evse_peak_current_ripple)

abbrev vec : List Tuple → ArrayVec Tuple
vec tuples = record { items = tuples }

told_with : (code : ResponseCode) (p : EvseProcessing) (s : Option SaSchedules) (l : EvseChargeParameter)
    → parameters_told (read parameters_res (children (holding (charge_parameter_discovery_res_parts (record {
      response_code = code;
      evse_processing = p;
      sa_schedules = s;
      evse_charge_parameter = l;
    }))))).1
    ≡ tell.ChargeParameters (read step (Of (Ordinal (evse_processing_ordinal p)))) (option_map (λ x. vec (read schedules (sa_schedules_inside x))) s)
    (limits_of (read post_row (post_seen l)).0)
told_with code p None (of_post.Ac x) = refl
told_with code p None (of_post.Dc x) = refl
told_with code p (Some (schedule.SaScheduleList y)) (of_post.Ac x) = refl
told_with code p (Some (schedule.SaScheduleList y)) (of_post.Dc x) = refl

pub parameters_res_read : (r : ChargeParameterDiscoveryRes)
    → parameters_told (read parameters_res (children (holding (charge_parameter_discovery_res_parts r)))).1
    ≡ tell.ChargeParameters (read step (Of (Ordinal (evse_processing_ordinal r.evse_processing))))
    (option_map (λ x. vec (read schedules (sa_schedules_inside x))) r.sa_schedules)
    (limits_of (read post_row (children (holding (
    one (evse_charge_parameter_name r.evse_charge_parameter) (evse_charge_parameter_inside r.evse_charge_parameter) ∷ []
    )))).0)
parameters_res_read r = told_with r.response_code r.evse_processing r.sa_schedules r.evse_charge_parameter
