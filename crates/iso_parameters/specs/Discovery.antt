-- ISO 15118-2:2014 8.4.3, charge parameters: what elements of these types contain, part by part.
use Rattle.std.specs.Prelude.{pos, List, [], ◌∷◌}
use Rattle.exi_documents.specs.Trees.{Ordinal, Number}
use Rattle.message_parts.specs.Contents.{Part, Of, one, perhaps, perhaps_one, mapped}
use Rattle.iso_schema.specs.declared.names.TheConstants.{RESPONSE_CODE, EVSE_PROCESSING, MAX_ENTRIES_SA_SCHEDULE_TUPLE, REQUESTED_ENERGY_TRANSFER_MODE}
use Rattle.iso_schedules.specs.Codes.{response_code_ordinal, energy_transfer_mode_ordinal, evse_processing_ordinal}
use Rattle.iso_parameters.specs.Limits.{ev_charge_parameter_name, ev_charge_parameter_inside, evse_charge_parameter_name, evse_charge_parameter_inside}
use Rattle.iso_schedules.specs.Schedules.{sa_schedules_name, sa_schedules_inside}
use Rattle.iso_parameters.specs.declared.discovery.ChargeParameterDiscoveryReq.{ChargeParameterDiscoveryReq}
use Rattle.iso_parameters.specs.declared.discovery.ChargeParameterDiscoveryRes.{ChargeParameterDiscoveryRes}

abbrev pub charge_parameter_discovery_req_parts : ChargeParameterDiscoveryReq → List Part
charge_parameter_discovery_req_parts v =
    perhaps MAX_ENTRIES_SA_SCHEDULE_TUPLE (mapped (λ x. Of (Number (pos x))) v.max_entries_sa_schedule_tuple)
    ∷ one REQUESTED_ENERGY_TRANSFER_MODE (Of (Ordinal (energy_transfer_mode_ordinal v.requested_energy_transfer_mode)))
    ∷ one (ev_charge_parameter_name v.ev_charge_parameter) (ev_charge_parameter_inside v.ev_charge_parameter)
    ∷ []

abbrev pub charge_parameter_discovery_res_parts : ChargeParameterDiscoveryRes → List Part
charge_parameter_discovery_res_parts v =
    one RESPONSE_CODE (Of (Ordinal (response_code_ordinal v.response_code)))
    ∷ one EVSE_PROCESSING (Of (Ordinal (evse_processing_ordinal v.evse_processing)))
    ∷ perhaps_one (mapped (λ x. (sa_schedules_name x, sa_schedules_inside x)) v.sa_schedules)
    ∷ one (evse_charge_parameter_name v.evse_charge_parameter) (evse_charge_parameter_inside v.evse_charge_parameter)
    ∷ []
