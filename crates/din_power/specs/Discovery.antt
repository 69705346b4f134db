-- DIN SPEC 70121:2014 9.4, charge parameters and power delivery: what elements of these types contain, part by part.
use Rattle.std.specs.Prelude.{List, [], ◌∷◌}
use Rattle.exi_documents.specs.Trees.{Ordinal}
use Rattle.message_parts.specs.Contents.{Part, Of, one, perhaps_one, mapped}
use Rattle.din_schema.specs.declared.names.TheConstants.{RESPONSE_CODE, EVSE_PROCESSING, EV_REQUESTED_ENERGY_TRANSFER_TYPE}
use Rattle.din_parts.specs.Codes.{response_code_ordinal, energy_transfer_mode_ordinal, evse_processing_ordinal}
use Rattle.din_power.specs.Limits.{ev_charge_parameter_name, ev_charge_parameter_inside, evse_charge_parameter_name, evse_charge_parameter_inside}
use Rattle.din_power.specs.Schedules.{sa_schedules_name, sa_schedules_inside}
use Rattle.din_power.specs.declared.discovery.ChargeParameterDiscoveryReq.{ChargeParameterDiscoveryReq}
use Rattle.din_power.specs.declared.discovery.ChargeParameterDiscoveryRes.{ChargeParameterDiscoveryRes}

abbrev pub charge_parameter_discovery_req_parts : ChargeParameterDiscoveryReq → List Part
charge_parameter_discovery_req_parts v =
    one EV_REQUESTED_ENERGY_TRANSFER_TYPE (Of (Ordinal (energy_transfer_mode_ordinal v.ev_requested_energy_transfer_type)))
    ∷ one (ev_charge_parameter_name v.ev_charge_parameter) (ev_charge_parameter_inside v.ev_charge_parameter)
    ∷ []

abbrev pub charge_parameter_discovery_res_parts : ChargeParameterDiscoveryRes → List Part
charge_parameter_discovery_res_parts v =
    one RESPONSE_CODE (Of (Ordinal (response_code_ordinal v.response_code)))
    ∷ one EVSE_PROCESSING (Of (Ordinal (evse_processing_ordinal v.evse_processing)))
    ∷ perhaps_one (mapped (λ x. (sa_schedules_name x, sa_schedules_inside x)) v.sa_schedules)
    ∷ one (evse_charge_parameter_name v.evse_charge_parameter) (evse_charge_parameter_inside v.evse_charge_parameter)
    ∷ []
