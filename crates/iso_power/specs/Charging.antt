-- ISO 15118-2:2014 8.4.5, DC: what elements of these types contain, part by part.
use Rattle.std.specs.Prelude.{pos, List, [], ◌∷◌}
use Rattle.exi_documents.specs.Trees.{Truth, Ordinal, Number}
use Rattle.iso_parts.specs.Contents.{Part, Of, one, perhaps, mapped, holding}
use Rattle.iso_parts.specs.Texts.{text_value}
use Rattle.iso_schema.specs.declared.names.TheConstants.{RESPONSE_CODE, EVSEID, EVSE_PROCESSING, DC_EV_STATUS, EV_MAXIMUM_CURRENT_LIMIT, EV_MAXIMUM_POWER_LIMIT, EV_MAXIMUM_VOLTAGE_LIMIT, SA_SCHEDULE_TUPLE_ID, DC_EVSE_STATUS, EVSE_MAXIMUM_CURRENT_LIMIT, EVSE_MAXIMUM_POWER_LIMIT, EVSE_MAXIMUM_VOLTAGE_LIMIT, BULK_CHARGING_COMPLETE, CHARGING_COMPLETE, METER_INFO, RECEIPT_REQUIRED, EV_TARGET_VOLTAGE, EV_TARGET_CURRENT, EVSE_PRESENT_VOLTAGE, REMAINING_TIME_TO_FULL_SO_C, REMAINING_TIME_TO_BULK_SO_C, EVSE_PRESENT_CURRENT, EVSE_CURRENT_LIMIT_ACHIEVED, EVSE_VOLTAGE_LIMIT_ACHIEVED, EVSE_POWER_LIMIT_ACHIEVED}
use Rattle.iso_parts.specs.Codes.{response_code_ordinal, evse_processing_ordinal}
use Rattle.iso_parts.specs.Values.{physical_value_parts, dc_ev_status_parts, dc_evse_status_parts, meter_info_parts}
use Rattle.iso_power.specs.declared.charging.CableCheckReq.{CableCheckReq}
use Rattle.iso_power.specs.declared.charging.CableCheckRes.{CableCheckRes}
use Rattle.iso_power.specs.declared.charging.PreChargeReq.{PreChargeReq}
use Rattle.iso_power.specs.declared.charging.PreChargeRes.{PreChargeRes}
use Rattle.iso_power.specs.declared.charging.CurrentDemandReq.{CurrentDemandReq}
use Rattle.iso_power.specs.declared.charging.CurrentDemandRes.{CurrentDemandRes}
use Rattle.iso_power.specs.declared.charging.WeldingDetectionReq.{WeldingDetectionReq}
use Rattle.iso_power.specs.declared.charging.WeldingDetectionRes.{WeldingDetectionRes}

abbrev pub cable_check_req_parts : CableCheckReq → List Part
cable_check_req_parts v =
    one DC_EV_STATUS (holding (dc_ev_status_parts v.dc_ev_status))
    ∷ []

abbrev pub cable_check_res_parts : CableCheckRes → List Part
cable_check_res_parts v =
    one RESPONSE_CODE (Of (Ordinal (response_code_ordinal v.response_code)))
    ∷ one DC_EVSE_STATUS (holding (dc_evse_status_parts v.dc_evse_status))
    ∷ one EVSE_PROCESSING (Of (Ordinal (evse_processing_ordinal v.evse_processing)))
    ∷ []

abbrev pub pre_charge_req_parts : PreChargeReq → List Part
pre_charge_req_parts v =
    one DC_EV_STATUS (holding (dc_ev_status_parts v.dc_ev_status))
    ∷ one EV_TARGET_VOLTAGE (holding (physical_value_parts v.ev_target_voltage))
    ∷ one EV_TARGET_CURRENT (holding (physical_value_parts v.ev_target_current))
    ∷ []

abbrev pub pre_charge_res_parts : PreChargeRes → List Part
pre_charge_res_parts v =
    one RESPONSE_CODE (Of (Ordinal (response_code_ordinal v.response_code)))
    ∷ one DC_EVSE_STATUS (holding (dc_evse_status_parts v.dc_evse_status))
    ∷ one EVSE_PRESENT_VOLTAGE (holding (physical_value_parts v.evse_present_voltage))
    ∷ []

abbrev pub current_demand_req_parts : CurrentDemandReq → List Part
current_demand_req_parts v =
    one DC_EV_STATUS (holding (dc_ev_status_parts v.dc_ev_status))
    ∷ one EV_TARGET_CURRENT (holding (physical_value_parts v.ev_target_current))
    ∷ perhaps EV_MAXIMUM_VOLTAGE_LIMIT (mapped (λ x. holding (physical_value_parts x)) v.ev_maximum_voltage_limit)
    ∷ perhaps EV_MAXIMUM_CURRENT_LIMIT (mapped (λ x. holding (physical_value_parts x)) v.ev_maximum_current_limit)
    ∷ perhaps EV_MAXIMUM_POWER_LIMIT (mapped (λ x. holding (physical_value_parts x)) v.ev_maximum_power_limit)
    ∷ perhaps BULK_CHARGING_COMPLETE (mapped (λ x. Of (Truth x)) v.bulk_charging_complete)
    ∷ one CHARGING_COMPLETE (Of (Truth v.charging_complete))
    ∷ perhaps REMAINING_TIME_TO_FULL_SO_C (mapped (λ x. holding (physical_value_parts x)) v.remaining_time_to_full_so_c)
    ∷ perhaps REMAINING_TIME_TO_BULK_SO_C (mapped (λ x. holding (physical_value_parts x)) v.remaining_time_to_bulk_so_c)
    ∷ one EV_TARGET_VOLTAGE (holding (physical_value_parts v.ev_target_voltage))
    ∷ []

abbrev pub current_demand_res_parts : CurrentDemandRes → List Part
current_demand_res_parts v =
    one RESPONSE_CODE (Of (Ordinal (response_code_ordinal v.response_code)))
    ∷ one DC_EVSE_STATUS (holding (dc_evse_status_parts v.dc_evse_status))
    ∷ one EVSE_PRESENT_VOLTAGE (holding (physical_value_parts v.evse_present_voltage))
    ∷ one EVSE_PRESENT_CURRENT (holding (physical_value_parts v.evse_present_current))
    ∷ one EVSE_CURRENT_LIMIT_ACHIEVED (Of (Truth v.evse_current_limit_achieved))
    ∷ one EVSE_VOLTAGE_LIMIT_ACHIEVED (Of (Truth v.evse_voltage_limit_achieved))
    ∷ one EVSE_POWER_LIMIT_ACHIEVED (Of (Truth v.evse_power_limit_achieved))
    ∷ perhaps EVSE_MAXIMUM_VOLTAGE_LIMIT (mapped (λ x. holding (physical_value_parts x)) v.evse_maximum_voltage_limit)
    ∷ perhaps EVSE_MAXIMUM_CURRENT_LIMIT (mapped (λ x. holding (physical_value_parts x)) v.evse_maximum_current_limit)
    ∷ perhaps EVSE_MAXIMUM_POWER_LIMIT (mapped (λ x. holding (physical_value_parts x)) v.evse_maximum_power_limit)
    ∷ one EVSEID (Of (text_value v.evseid))
    ∷ one SA_SCHEDULE_TUPLE_ID (Of (Number (pos v.sa_schedule_tuple_id)))
    ∷ perhaps METER_INFO (mapped (λ x. holding (meter_info_parts x)) v.meter_info)
    ∷ perhaps RECEIPT_REQUIRED (mapped (λ x. Of (Truth x)) v.receipt_required)
    ∷ []

abbrev pub welding_detection_req_parts : WeldingDetectionReq → List Part
welding_detection_req_parts v =
    one DC_EV_STATUS (holding (dc_ev_status_parts v.dc_ev_status))
    ∷ []

abbrev pub welding_detection_res_parts : WeldingDetectionRes → List Part
welding_detection_res_parts v =
    one RESPONSE_CODE (Of (Ordinal (response_code_ordinal v.response_code)))
    ∷ one DC_EVSE_STATUS (holding (dc_evse_status_parts v.dc_evse_status))
    ∷ one EVSE_PRESENT_VOLTAGE (holding (physical_value_parts v.evse_present_voltage))
    ∷ []
