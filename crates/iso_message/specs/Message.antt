-- ISO 15118-2:2014 8.3, message, header and body, and 8.5, data types: what elements of these types contain, part by part.
use Rattle.std.specs.Prelude.{ℕ, List, [], ◌∷◌}
use Rattle.message_parts.specs.Contents.{Inside, Part, one, perhaps_one, mapped, holding}
use Rattle.iso_schema.specs.declared.names.TheConstants.{HEADER, BODY, AUTHORIZATION_REQ, AUTHORIZATION_RES, CABLE_CHECK_REQ, CABLE_CHECK_RES, CHARGE_PARAMETER_DISCOVERY_REQ, CHARGE_PARAMETER_DISCOVERY_RES, CHARGING_STATUS_REQ, CHARGING_STATUS_RES, CURRENT_DEMAND_REQ, CURRENT_DEMAND_RES, PAYMENT_SERVICE_SELECTION_REQ, PAYMENT_SERVICE_SELECTION_RES, POWER_DELIVERY_REQ, POWER_DELIVERY_RES, PRE_CHARGE_REQ, PRE_CHARGE_RES, SERVICE_DETAIL_REQ, SERVICE_DETAIL_RES, SERVICE_DISCOVERY_REQ, SERVICE_DISCOVERY_RES, SESSION_SETUP_REQ, SESSION_SETUP_RES, SESSION_STOP_REQ, SESSION_STOP_RES, WELDING_DETECTION_REQ, WELDING_DETECTION_RES}
use Rattle.iso_schema.specs.declared.kinds.TheConstants.{EMPTY_KIND, SESSION_SETUP_REQ_KIND, SESSION_SETUP_RES_KIND, SERVICE_DISCOVERY_REQ_KIND, SERVICE_DISCOVERY_RES_KIND, SERVICE_DETAIL_REQ_KIND, SERVICE_DETAIL_RES_KIND, PAYMENT_SERVICE_SELECTION_REQ_KIND, PAYMENT_SERVICE_SELECTION_RES_KIND, AUTHORIZATION_REQ_KIND, AUTHORIZATION_RES_KIND, SESSION_STOP_REQ_KIND, SESSION_STOP_RES_KIND, CHARGE_PARAMETER_DISCOVERY_REQ_KIND, CHARGE_PARAMETER_DISCOVERY_RES_KIND, POWER_DELIVERY_REQ_KIND, POWER_DELIVERY_RES_KIND, CHARGING_STATUS_RES_KIND, CABLE_CHECK_REQ_KIND, CABLE_CHECK_RES_KIND, PRE_CHARGE_REQ_KIND, PRE_CHARGE_RES_KIND, CURRENT_DEMAND_REQ_KIND, CURRENT_DEMAND_RES_KIND, WELDING_DETECTION_REQ_KIND, WELDING_DETECTION_RES_KIND}
use Rattle.iso_elements.specs.Frame.{header_parts}
use Rattle.iso_elements.specs.Services.{service_discovery_res_parts}
use Rattle.iso_elements.specs.Details.{service_detail_res_parts}
use Rattle.iso_elements.specs.Discovery.{charge_parameter_discovery_res_parts}
use Rattle.iso_elements.specs.Brief.{brief_element_name, brief_element_inside}
use Rattle.iso_message.specs.declared.message.BodyElement.{BodyElement}
use Rattle.iso_message.specs.declared.message.BodyElement.TheVariants as body_element
use Rattle.iso_message.specs.declared.message.Body.{Body}
use Rattle.iso_message.specs.declared.message.IsoMessage.{IsoMessage}

-- the elements of BodyElement in the profile, with their kinds
abbrev pub body_element_members : List (ℕ × ℕ)
body_element_members =
    (AUTHORIZATION_REQ, AUTHORIZATION_REQ_KIND)
    ∷ (AUTHORIZATION_RES, AUTHORIZATION_RES_KIND)
    ∷ (CABLE_CHECK_REQ, CABLE_CHECK_REQ_KIND)
    ∷ (CABLE_CHECK_RES, CABLE_CHECK_RES_KIND)
    ∷ (CHARGE_PARAMETER_DISCOVERY_REQ, CHARGE_PARAMETER_DISCOVERY_REQ_KIND)
    ∷ (CHARGE_PARAMETER_DISCOVERY_RES, CHARGE_PARAMETER_DISCOVERY_RES_KIND)
    ∷ (CHARGING_STATUS_REQ, EMPTY_KIND)
    ∷ (CHARGING_STATUS_RES, CHARGING_STATUS_RES_KIND)
    ∷ (CURRENT_DEMAND_REQ, CURRENT_DEMAND_REQ_KIND)
    ∷ (CURRENT_DEMAND_RES, CURRENT_DEMAND_RES_KIND)
    ∷ (PAYMENT_SERVICE_SELECTION_REQ, PAYMENT_SERVICE_SELECTION_REQ_KIND)
    ∷ (PAYMENT_SERVICE_SELECTION_RES, PAYMENT_SERVICE_SELECTION_RES_KIND)
    ∷ (POWER_DELIVERY_REQ, POWER_DELIVERY_REQ_KIND)
    ∷ (POWER_DELIVERY_RES, POWER_DELIVERY_RES_KIND)
    ∷ (PRE_CHARGE_REQ, PRE_CHARGE_REQ_KIND)
    ∷ (PRE_CHARGE_RES, PRE_CHARGE_RES_KIND)
    ∷ (SERVICE_DETAIL_REQ, SERVICE_DETAIL_REQ_KIND)
    ∷ (SERVICE_DETAIL_RES, SERVICE_DETAIL_RES_KIND)
    ∷ (SERVICE_DISCOVERY_REQ, SERVICE_DISCOVERY_REQ_KIND)
    ∷ (SERVICE_DISCOVERY_RES, SERVICE_DISCOVERY_RES_KIND)
    ∷ (SESSION_SETUP_REQ, SESSION_SETUP_REQ_KIND)
    ∷ (SESSION_SETUP_RES, SESSION_SETUP_RES_KIND)
    ∷ (SESSION_STOP_REQ, SESSION_STOP_REQ_KIND)
    ∷ (SESSION_STOP_RES, SESSION_STOP_RES_KIND)
    ∷ (WELDING_DETECTION_REQ, WELDING_DETECTION_REQ_KIND)
    ∷ (WELDING_DETECTION_RES, WELDING_DETECTION_RES_KIND)
    ∷ []

abbrev pub body_element_name : BodyElement → ℕ
body_element_name (body_element.Brief x) = brief_element_name x
body_element_name (body_element.ChargeParameterDiscoveryRes x) = CHARGE_PARAMETER_DISCOVERY_RES
body_element_name (body_element.ServiceDetailRes x) = SERVICE_DETAIL_RES
body_element_name (body_element.ServiceDiscoveryRes x) = SERVICE_DISCOVERY_RES

abbrev pub body_element_inside : BodyElement → Inside
body_element_inside (body_element.Brief x) = brief_element_inside x
body_element_inside (body_element.ChargeParameterDiscoveryRes x) = holding (charge_parameter_discovery_res_parts x)
body_element_inside (body_element.ServiceDetailRes x) = holding (service_detail_res_parts x)
body_element_inside (body_element.ServiceDiscoveryRes x) = holding (service_discovery_res_parts x)

abbrev pub body_parts : Body → List Part
body_parts v =
    perhaps_one (mapped (λ x. (body_element_name x, body_element_inside x)) v.element)
    ∷ []

abbrev pub iso_message_parts : IsoMessage → List Part
iso_message_parts v =
    one HEADER (holding (header_parts v.header))
    ∷ one BODY (holding (body_parts v.body))
    ∷ []
