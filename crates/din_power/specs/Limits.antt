-- DIN SPEC 70121:2014 9.4, charge parameters and power delivery: what elements of these types contain, part by part.
use Rattle.std.specs.Prelude.{ℕ, pos, List, [], ◌∷◌}
use Rattle.exi_documents.specs.Trees.{Number}
use Rattle.message_parts.specs.Contents.{Inside, Part, Of, one, perhaps, mapped, holding}
use Rattle.din_schema.specs.declared.names.TheConstants.{DC_EV_CHARGE_PARAMETER, DC_EV_STATUS, EV_MAXIMUM_CURRENT_LIMIT, EV_MAXIMUM_POWER_LIMIT, EV_MAXIMUM_VOLTAGE_LIMIT, EV_ENERGY_CAPACITY, EV_ENERGY_REQUEST, FULL_SOC, BULK_SOC, DC_EVSE_CHARGE_PARAMETER, DC_EVSE_STATUS, EVSE_MAXIMUM_CURRENT_LIMIT, EVSE_MAXIMUM_POWER_LIMIT, EVSE_MAXIMUM_VOLTAGE_LIMIT, EVSE_MINIMUM_CURRENT_LIMIT, EVSE_MINIMUM_VOLTAGE_LIMIT, EVSE_CURRENT_REGULATION_TOLERANCE, EVSE_PEAK_CURRENT_RIPPLE, EVSE_ENERGY_TO_BE_DELIVERED}
use Rattle.din_schema.specs.declared.kinds.TheConstants.{DC_EV_CHARGE_PARAMETER_KIND, DC_EVSE_CHARGE_PARAMETER_KIND}
use Rattle.din_parts.specs.Values.{physical_value_parts, dc_ev_status_parts, dc_evse_status_parts}
use Rattle.din_power.specs.declared.limits.DcEvChargeParameter.{DcEvChargeParameter}
use Rattle.din_power.specs.declared.limits.EvChargeParameter.{EvChargeParameter}
use Rattle.din_power.specs.declared.limits.EvChargeParameter.TheVariants as ev_charge_parameter
use Rattle.din_power.specs.declared.limits.DcEvseChargeParameter.{DcEvseChargeParameter}
use Rattle.din_power.specs.declared.limits.EvseChargeParameter.{EvseChargeParameter}
use Rattle.din_power.specs.declared.limits.EvseChargeParameter.TheVariants as evse_charge_parameter

abbrev pub dc_ev_charge_parameter_parts : DcEvChargeParameter → List Part
dc_ev_charge_parameter_parts v =
    one DC_EV_STATUS (holding (dc_ev_status_parts v.dc_ev_status))
    ∷ one EV_MAXIMUM_CURRENT_LIMIT (holding (physical_value_parts v.ev_maximum_current_limit))
    ∷ perhaps EV_MAXIMUM_POWER_LIMIT (mapped (λ x. holding (physical_value_parts x)) v.ev_maximum_power_limit)
    ∷ one EV_MAXIMUM_VOLTAGE_LIMIT (holding (physical_value_parts v.ev_maximum_voltage_limit))
    ∷ perhaps EV_ENERGY_CAPACITY (mapped (λ x. holding (physical_value_parts x)) v.ev_energy_capacity)
    ∷ perhaps EV_ENERGY_REQUEST (mapped (λ x. holding (physical_value_parts x)) v.ev_energy_request)
    ∷ perhaps FULL_SOC (mapped (λ x. Of (Number (pos x))) v.full_soc)
    ∷ perhaps BULK_SOC (mapped (λ x. Of (Number (pos x))) v.bulk_soc)
    ∷ []

-- the elements of EVChargeParameter in the profile, with their kinds
abbrev pub ev_charge_parameter_members : List (ℕ × ℕ)
ev_charge_parameter_members =
    (DC_EV_CHARGE_PARAMETER, DC_EV_CHARGE_PARAMETER_KIND)
    ∷ []

abbrev pub ev_charge_parameter_name : EvChargeParameter → ℕ
ev_charge_parameter_name (ev_charge_parameter.Dc x) = DC_EV_CHARGE_PARAMETER

abbrev pub ev_charge_parameter_inside : EvChargeParameter → Inside
ev_charge_parameter_inside (ev_charge_parameter.Dc x) = holding (dc_ev_charge_parameter_parts x)

abbrev pub dc_evse_charge_parameter_parts : DcEvseChargeParameter → List Part
dc_evse_charge_parameter_parts v =
    one DC_EVSE_STATUS (holding (dc_evse_status_parts v.dc_evse_status))
    ∷ one EVSE_MAXIMUM_CURRENT_LIMIT (holding (physical_value_parts v.evse_maximum_current_limit))
    ∷ perhaps EVSE_MAXIMUM_POWER_LIMIT (mapped (λ x. holding (physical_value_parts x)) v.evse_maximum_power_limit)
    ∷ one EVSE_MAXIMUM_VOLTAGE_LIMIT (holding (physical_value_parts v.evse_maximum_voltage_limit))
    ∷ one EVSE_MINIMUM_CURRENT_LIMIT (holding (physical_value_parts v.evse_minimum_current_limit))
    ∷ one EVSE_MINIMUM_VOLTAGE_LIMIT (holding (physical_value_parts v.evse_minimum_voltage_limit))
    ∷ perhaps EVSE_CURRENT_REGULATION_TOLERANCE (mapped (λ x. holding (physical_value_parts x)) v.evse_current_regulation_tolerance)
    ∷ one EVSE_PEAK_CURRENT_RIPPLE (holding (physical_value_parts v.evse_peak_current_ripple))
    ∷ perhaps EVSE_ENERGY_TO_BE_DELIVERED (mapped (λ x. holding (physical_value_parts x)) v.evse_energy_to_be_delivered)
    ∷ []

-- the elements of EVSEChargeParameter in the profile, with their kinds
abbrev pub evse_charge_parameter_members : List (ℕ × ℕ)
evse_charge_parameter_members =
    (DC_EVSE_CHARGE_PARAMETER, DC_EVSE_CHARGE_PARAMETER_KIND)
    ∷ []

abbrev pub evse_charge_parameter_name : EvseChargeParameter → ℕ
evse_charge_parameter_name (evse_charge_parameter.Dc x) = DC_EVSE_CHARGE_PARAMETER

abbrev pub evse_charge_parameter_inside : EvseChargeParameter → Inside
evse_charge_parameter_inside (evse_charge_parameter.Dc x) = holding (dc_evse_charge_parameter_parts x)
