-- ISO 15118-2:2014 8.4.3, charge parameters, and 8.5.2, schedules and charge parameters of a post: what elements of these types contain, part by part.
use Rattle.std.specs.Prelude.{ℕ, pos, List, [], ◌∷◌}
use Rattle.exi_documents.specs.Trees.{Number}
use Rattle.message_parts.specs.Contents.{Inside, Part, Of, one, perhaps, mapped, holding}
use Rattle.iso_schema.specs.declared.names.TheConstants.{AC_EV_CHARGE_PARAMETER, DC_EV_CHARGE_PARAMETER, DEPARTURE_TIME, E_AMOUNT, EV_MAX_VOLTAGE, EV_MAX_CURRENT, EV_MIN_CURRENT, DC_EV_STATUS, EV_MAXIMUM_CURRENT_LIMIT, EV_MAXIMUM_POWER_LIMIT, EV_MAXIMUM_VOLTAGE_LIMIT, EV_ENERGY_CAPACITY, EV_ENERGY_REQUEST, FULL_SOC, BULK_SOC, AC_EVSE_CHARGE_PARAMETER, DC_EVSE_CHARGE_PARAMETER, AC_EVSE_STATUS, EVSE_NOMINAL_VOLTAGE, EVSE_MAX_CURRENT, DC_EVSE_STATUS, EVSE_MAXIMUM_CURRENT_LIMIT, EVSE_MAXIMUM_POWER_LIMIT, EVSE_MAXIMUM_VOLTAGE_LIMIT, EVSE_MINIMUM_CURRENT_LIMIT, EVSE_MINIMUM_VOLTAGE_LIMIT, EVSE_CURRENT_REGULATION_TOLERANCE, EVSE_PEAK_CURRENT_RIPPLE, EVSE_ENERGY_TO_BE_DELIVERED}
use Rattle.iso_schema.specs.declared.kinds.TheConstants.{AC_EV_CHARGE_PARAMETER_KIND, DC_EV_CHARGE_PARAMETER_KIND, AC_EVSE_CHARGE_PARAMETER_KIND, DC_EVSE_CHARGE_PARAMETER_KIND}
use Rattle.iso_schedules.specs.Values.{physical_value_parts, dc_ev_status_parts, ac_evse_status_parts, dc_evse_status_parts}
use Rattle.iso_parameters.specs.declared.limits.AcEvChargeParameter.{AcEvChargeParameter}
use Rattle.iso_parameters.specs.declared.limits.DcEvChargeParameter.{DcEvChargeParameter}
use Rattle.iso_parameters.specs.declared.limits.EvChargeParameter.{EvChargeParameter}
use Rattle.iso_parameters.specs.declared.limits.EvChargeParameter.TheVariants as ev_charge_parameter
use Rattle.iso_parameters.specs.declared.limits.AcEvseChargeParameter.{AcEvseChargeParameter}
use Rattle.iso_parameters.specs.declared.limits.DcEvseChargeParameter.{DcEvseChargeParameter}
use Rattle.iso_parameters.specs.declared.limits.EvseChargeParameter.{EvseChargeParameter}
use Rattle.iso_parameters.specs.declared.limits.EvseChargeParameter.TheVariants as evse_charge_parameter

abbrev pub ac_ev_charge_parameter_parts : AcEvChargeParameter → List Part
ac_ev_charge_parameter_parts v =
    perhaps DEPARTURE_TIME (mapped (λ x. Of (Number (pos x))) v.departure_time)
    ∷ one E_AMOUNT (holding (physical_value_parts v.e_amount))
    ∷ one EV_MAX_VOLTAGE (holding (physical_value_parts v.ev_max_voltage))
    ∷ one EV_MAX_CURRENT (holding (physical_value_parts v.ev_max_current))
    ∷ one EV_MIN_CURRENT (holding (physical_value_parts v.ev_min_current))
    ∷ []

abbrev pub dc_ev_charge_parameter_parts : DcEvChargeParameter → List Part
dc_ev_charge_parameter_parts v =
    perhaps DEPARTURE_TIME (mapped (λ x. Of (Number (pos x))) v.departure_time)
    ∷ one DC_EV_STATUS (holding (dc_ev_status_parts v.dc_ev_status))
    ∷ one EV_MAXIMUM_CURRENT_LIMIT (holding (physical_value_parts v.ev_maximum_current_limit))
    ∷ perhaps EV_MAXIMUM_POWER_LIMIT (mapped (λ x. holding (physical_value_parts x)) v.ev_maximum_power_limit)
    ∷ one EV_MAXIMUM_VOLTAGE_LIMIT (holding (physical_value_parts v.ev_maximum_voltage_limit))
    ∷ perhaps EV_ENERGY_CAPACITY (mapped (λ x. holding (physical_value_parts x)) v.ev_energy_capacity)
    ∷ perhaps EV_ENERGY_REQUEST (mapped (λ x. holding (physical_value_parts x)) v.ev_energy_request)
    ∷ perhaps FULL_SOC (mapped (λ x. Of (Number (pos x))) v.full_soc)
    ∷ perhaps BULK_SOC (mapped (λ x. Of (Number (pos x))) v.bulk_soc)
    ∷ []

-- the elements of EVChargeParameter in the profile, with their kinds
abbrev pub ev_charge_parameter_members : List (ℕ × ℕ)
ev_charge_parameter_members =
    (AC_EV_CHARGE_PARAMETER, AC_EV_CHARGE_PARAMETER_KIND)
    ∷ (DC_EV_CHARGE_PARAMETER, DC_EV_CHARGE_PARAMETER_KIND)
    ∷ []

abbrev pub ev_charge_parameter_name : EvChargeParameter → ℕ
ev_charge_parameter_name (ev_charge_parameter.Ac x) = AC_EV_CHARGE_PARAMETER
ev_charge_parameter_name (ev_charge_parameter.Dc x) = DC_EV_CHARGE_PARAMETER

abbrev pub ev_charge_parameter_inside : EvChargeParameter → Inside
ev_charge_parameter_inside (ev_charge_parameter.Ac x) = holding (ac_ev_charge_parameter_parts x)
ev_charge_parameter_inside (ev_charge_parameter.Dc x) = holding (dc_ev_charge_parameter_parts x)

abbrev pub ac_evse_charge_parameter_parts : AcEvseChargeParameter → List Part
ac_evse_charge_parameter_parts v =
    one AC_EVSE_STATUS (holding (ac_evse_status_parts v.ac_evse_status))
    ∷ one EVSE_NOMINAL_VOLTAGE (holding (physical_value_parts v.evse_nominal_voltage))
    ∷ one EVSE_MAX_CURRENT (holding (physical_value_parts v.evse_max_current))
    ∷ []

abbrev pub dc_evse_charge_parameter_parts : DcEvseChargeParameter → List Part
dc_evse_charge_parameter_parts v =
    one DC_EVSE_STATUS (holding (dc_evse_status_parts v.dc_evse_status))
    ∷ one EVSE_MAXIMUM_CURRENT_LIMIT (holding (physical_value_parts v.evse_maximum_current_limit))
    ∷ one EVSE_MAXIMUM_POWER_LIMIT (holding (physical_value_parts v.evse_maximum_power_limit))
    ∷ one EVSE_MAXIMUM_VOLTAGE_LIMIT (holding (physical_value_parts v.evse_maximum_voltage_limit))
    ∷ one EVSE_MINIMUM_CURRENT_LIMIT (holding (physical_value_parts v.evse_minimum_current_limit))
    ∷ one EVSE_MINIMUM_VOLTAGE_LIMIT (holding (physical_value_parts v.evse_minimum_voltage_limit))
    ∷ perhaps EVSE_CURRENT_REGULATION_TOLERANCE (mapped (λ x. holding (physical_value_parts x)) v.evse_current_regulation_tolerance)
    ∷ one EVSE_PEAK_CURRENT_RIPPLE (holding (physical_value_parts v.evse_peak_current_ripple))
    ∷ perhaps EVSE_ENERGY_TO_BE_DELIVERED (mapped (λ x. holding (physical_value_parts x)) v.evse_energy_to_be_delivered)
    ∷ []

-- the elements of EVSEChargeParameter in the profile, with their kinds
abbrev pub evse_charge_parameter_members : List (ℕ × ℕ)
evse_charge_parameter_members =
    (AC_EVSE_CHARGE_PARAMETER, AC_EVSE_CHARGE_PARAMETER_KIND)
    ∷ (DC_EVSE_CHARGE_PARAMETER, DC_EVSE_CHARGE_PARAMETER_KIND)
    ∷ []

abbrev pub evse_charge_parameter_name : EvseChargeParameter → ℕ
evse_charge_parameter_name (evse_charge_parameter.Ac x) = AC_EVSE_CHARGE_PARAMETER
evse_charge_parameter_name (evse_charge_parameter.Dc x) = DC_EVSE_CHARGE_PARAMETER

abbrev pub evse_charge_parameter_inside : EvseChargeParameter → Inside
evse_charge_parameter_inside (evse_charge_parameter.Ac x) = holding (ac_evse_charge_parameter_parts x)
evse_charge_parameter_inside (evse_charge_parameter.Dc x) = holding (dc_evse_charge_parameter_parts x)
