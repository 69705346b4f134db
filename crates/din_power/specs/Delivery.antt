-- DIN SPEC 70121:2014 9.4, charge parameters and power delivery: what elements of these types contain, part by part.
use Rattle.std.specs.Prelude.{ℕ, pos, map, List, [], ◌∷◌}
use Rattle.exi_documents.specs.Trees.{Truth, Ordinal, Number}
use Rattle.message_parts.specs.Contents.{Inside, Part, Of, one, perhaps, each, perhaps_one, mapped, holding}
use Rattle.din_schema.specs.declared.names.TheConstants.{RESPONSE_CODE, DC_EV_STATUS, SA_SCHEDULE_TUPLE_ID, READY_TO_CHARGE_STATE, CHARGING_PROFILE, DC_EV_POWER_DELIVERY_PARAMETER, PROFILE_ENTRY, CHARGING_PROFILE_ENTRY_START, CHARGING_PROFILE_ENTRY_MAX_POWER, BULK_CHARGING_COMPLETE, CHARGING_COMPLETE}
use Rattle.din_schema.specs.declared.kinds.TheConstants.{DC_EV_POWER_DELIVERY_PARAMETER_KIND}
use Rattle.din_parts.specs.Codes.{response_code_ordinal}
use Rattle.din_parts.specs.Values.{dc_ev_status_parts, evse_status_name, evse_status_inside}
use Rattle.din_power.specs.declared.delivery.ProfileEntry.{ProfileEntry}
use Rattle.din_power.specs.declared.delivery.ChargingProfile.{ChargingProfile}
use Rattle.din_power.specs.declared.delivery.DcEvPowerDeliveryParameter.{DcEvPowerDeliveryParameter}
use Rattle.din_power.specs.declared.delivery.EvPowerDeliveryParameter.{EvPowerDeliveryParameter}
use Rattle.din_power.specs.declared.delivery.EvPowerDeliveryParameter.TheVariants as ev_power_delivery_parameter
use Rattle.din_power.specs.declared.delivery.PowerDeliveryReq.{PowerDeliveryReq}
use Rattle.din_power.specs.declared.delivery.PowerDeliveryRes.{PowerDeliveryRes}

abbrev pub profile_entry_parts : ProfileEntry → List Part
profile_entry_parts v =
    one CHARGING_PROFILE_ENTRY_START (Of (Number (pos v.charging_profile_entry_start)))
    ∷ one CHARGING_PROFILE_ENTRY_MAX_POWER (Of (Number v.charging_profile_entry_max_power))
    ∷ []

abbrev pub charging_profile_parts : ChargingProfile → List Part
charging_profile_parts v =
    one SA_SCHEDULE_TUPLE_ID (Of (Number v.sa_schedule_tuple_id))
    ∷ each PROFILE_ENTRY (map (λ x. holding (profile_entry_parts x)) v.profile_entry.items)
    ∷ []

abbrev pub dc_ev_power_delivery_parameter_parts : DcEvPowerDeliveryParameter → List Part
dc_ev_power_delivery_parameter_parts v =
    one DC_EV_STATUS (holding (dc_ev_status_parts v.dc_ev_status))
    ∷ perhaps BULK_CHARGING_COMPLETE (mapped (λ x. Of (Truth x)) v.bulk_charging_complete)
    ∷ one CHARGING_COMPLETE (Of (Truth v.charging_complete))
    ∷ []

-- the elements of EVPowerDeliveryParameter in the profile, with their kinds
abbrev pub ev_power_delivery_parameter_members : List (ℕ × ℕ)
ev_power_delivery_parameter_members =
    (DC_EV_POWER_DELIVERY_PARAMETER, DC_EV_POWER_DELIVERY_PARAMETER_KIND)
    ∷ []

abbrev pub ev_power_delivery_parameter_name : EvPowerDeliveryParameter → ℕ
ev_power_delivery_parameter_name (ev_power_delivery_parameter.Dc x) = DC_EV_POWER_DELIVERY_PARAMETER

abbrev pub ev_power_delivery_parameter_inside : EvPowerDeliveryParameter → Inside
ev_power_delivery_parameter_inside (ev_power_delivery_parameter.Dc x) = holding (dc_ev_power_delivery_parameter_parts x)

abbrev pub power_delivery_req_parts : PowerDeliveryReq → List Part
power_delivery_req_parts v =
    one READY_TO_CHARGE_STATE (Of (Truth v.ready_to_charge_state))
    ∷ perhaps CHARGING_PROFILE (mapped (λ x. holding (charging_profile_parts x)) v.charging_profile)
    ∷ perhaps_one (mapped (λ x. (ev_power_delivery_parameter_name x, ev_power_delivery_parameter_inside x)) v.ev_power_delivery_parameter)
    ∷ []

abbrev pub power_delivery_res_parts : PowerDeliveryRes → List Part
power_delivery_res_parts v =
    one RESPONSE_CODE (Of (Ordinal (response_code_ordinal v.response_code)))
    ∷ one (evse_status_name v.evse_status) (evse_status_inside v.evse_status)
    ∷ []
