-- ISO 15118-2:2014 8.4.3, power delivery, and 8.4.4, AC: what elements of these types contain, part by part.
use Rattle.std.specs.Prelude.{ℕ, pos, map, List, [], ◌∷◌}
use Rattle.exi_documents.specs.Trees.{Truth, Ordinal, Number}
use Rattle.iso_parts.specs.Contents.{Inside, Part, Of, one, perhaps, each, perhaps_one, mapped, holding}
use Rattle.iso_parts.specs.Texts.{text_value}
use Rattle.iso_schema.specs.declared.names.TheConstants.{RESPONSE_CODE, EVSEID, DC_EV_STATUS, SA_SCHEDULE_TUPLE_ID, AC_EVSE_STATUS, EVSE_MAX_CURRENT, CHARGE_PROGRESS, CHARGING_PROFILE, DC_EV_POWER_DELIVERY_PARAMETER, PROFILE_ENTRY, CHARGING_PROFILE_ENTRY_START, CHARGING_PROFILE_ENTRY_MAX_POWER, CHARGING_PROFILE_ENTRY_MAX_NUMBER_OF_PHASES_IN_USE, BULK_CHARGING_COMPLETE, CHARGING_COMPLETE, METER_INFO, RECEIPT_REQUIRED}
use Rattle.iso_schema.specs.declared.kinds.TheConstants.{DC_EV_POWER_DELIVERY_PARAMETER_KIND}
use Rattle.iso_parts.specs.Codes.{response_code_ordinal, charge_progress_ordinal}
use Rattle.iso_parts.specs.Values.{physical_value_parts, dc_ev_status_parts, ac_evse_status_parts, evse_status_name, evse_status_inside, meter_info_parts}
use Rattle.iso_delivery.specs.declared.delivery.ProfileEntry.{ProfileEntry}
use Rattle.iso_delivery.specs.declared.delivery.ChargingProfile.{ChargingProfile}
use Rattle.iso_delivery.specs.declared.delivery.DcEvPowerDeliveryParameter.{DcEvPowerDeliveryParameter}
use Rattle.iso_delivery.specs.declared.delivery.EvPowerDeliveryParameter.{EvPowerDeliveryParameter}
use Rattle.iso_delivery.specs.declared.delivery.EvPowerDeliveryParameter.TheVariants as ev_power_delivery_parameter
use Rattle.iso_delivery.specs.declared.delivery.PowerDeliveryReq.{PowerDeliveryReq}
use Rattle.iso_delivery.specs.declared.delivery.PowerDeliveryRes.{PowerDeliveryRes}
use Rattle.iso_delivery.specs.declared.delivery.ChargingStatusRes.{ChargingStatusRes}

abbrev pub profile_entry_parts : ProfileEntry → List Part
profile_entry_parts v =
    one CHARGING_PROFILE_ENTRY_START (Of (Number (pos v.charging_profile_entry_start)))
    ∷ one CHARGING_PROFILE_ENTRY_MAX_POWER (holding (physical_value_parts v.charging_profile_entry_max_power))
    ∷ perhaps CHARGING_PROFILE_ENTRY_MAX_NUMBER_OF_PHASES_IN_USE (mapped (λ x. Of (Number (pos x))) v.charging_profile_entry_max_number_of_phases_in_use)
    ∷ []

abbrev pub charging_profile_parts : ChargingProfile → List Part
charging_profile_parts v =
    each PROFILE_ENTRY (map (λ x. holding (profile_entry_parts x)) v.profile_entry.items)
    ∷ []

abbrev pub dc_ev_power_delivery_parameter_parts : DcEvPowerDeliveryParameter → List Part
dc_ev_power_delivery_parameter_parts v =
    one DC_EV_STATUS (holding (dc_ev_status_parts v.dc_ev_status))
    ∷ perhaps BULK_CHARGING_COMPLETE (mapped (λ x. Of (Truth x)) v.bulk_charging_complete)
    ∷ one CHARGING_COMPLETE (Of (Truth v.charging_complete))
    ∷ []

-- the elements of EVPowerDeliveryParameter in the profile, with their kinds
abbrev pub ev_power_delivery_parameter_members : List (ℕ × ℕ)
ev_power_delivery_parameter_members =
    (DC_EV_POWER_DELIVERY_PARAMETER, DC_EV_POWER_DELIVERY_PARAMETER_KIND)
    ∷ []

abbrev pub ev_power_delivery_parameter_name : EvPowerDeliveryParameter → ℕ
ev_power_delivery_parameter_name (ev_power_delivery_parameter.Dc x) = DC_EV_POWER_DELIVERY_PARAMETER

abbrev pub ev_power_delivery_parameter_inside : EvPowerDeliveryParameter → Inside
ev_power_delivery_parameter_inside (ev_power_delivery_parameter.Dc x) = holding (dc_ev_power_delivery_parameter_parts x)

abbrev pub power_delivery_req_parts : PowerDeliveryReq → List Part
power_delivery_req_parts v =
    one CHARGE_PROGRESS (Of (Ordinal (charge_progress_ordinal v.charge_progress)))
    ∷ one SA_SCHEDULE_TUPLE_ID (Of (Number (pos v.sa_schedule_tuple_id)))
    ∷ perhaps CHARGING_PROFILE (mapped (λ x. holding (charging_profile_parts x)) v.charging_profile)
    ∷ perhaps_one (mapped (λ x. (ev_power_delivery_parameter_name x, ev_power_delivery_parameter_inside x)) v.ev_power_delivery_parameter)
    ∷ []

abbrev pub power_delivery_res_parts : PowerDeliveryRes → List Part
power_delivery_res_parts v =
    one RESPONSE_CODE (Of (Ordinal (response_code_ordinal v.response_code)))
    ∷ one (evse_status_name v.evse_status) (evse_status_inside v.evse_status)
    ∷ []

abbrev pub charging_status_res_parts : ChargingStatusRes → List Part
charging_status_res_parts v =
    one RESPONSE_CODE (Of (Ordinal (response_code_ordinal v.response_code)))
    ∷ one EVSEID (Of (text_value v.evseid))
    ∷ one SA_SCHEDULE_TUPLE_ID (Of (Number (pos v.sa_schedule_tuple_id)))
    ∷ perhaps EVSE_MAX_CURRENT (mapped (λ x. holding (physical_value_parts x)) v.evse_max_current)
    ∷ perhaps METER_INFO (mapped (λ x. holding (meter_info_parts x)) v.meter_info)
    ∷ perhaps RECEIPT_REQUIRED (mapped (λ x. Of (Truth x)) v.receipt_required)
    ∷ one AC_EVSE_STATUS (holding (ac_evse_status_parts v.ac_evse_status))
    ∷ []
