-- DIN SPEC 70121:2014 9.2 to 9.5, message, header, body and data types: what elements of these types contain, part by part.
use Rattle.std.specs.Prelude.{ℕ, List, [], ◌∷◌}
use Rattle.message_parts.specs.Contents.{Inside, Part, one, perhaps_one, mapped, holding, holding_with}
use Rattle.din_schema.specs.declared.names.TheConstants.{HEADER, BODY, CABLE_CHECK_REQ, CABLE_CHECK_RES, CHARGE_PARAMETER_DISCOVERY_REQ, CHARGE_PARAMETER_DISCOVERY_RES, CONTRACT_AUTHENTICATION_REQ, CONTRACT_AUTHENTICATION_RES, CURRENT_DEMAND_REQ, CURRENT_DEMAND_RES, POWER_DELIVERY_REQ, POWER_DELIVERY_RES, PRE_CHARGE_REQ, PRE_CHARGE_RES, SERVICE_DISCOVERY_REQ, SERVICE_DISCOVERY_RES, SERVICE_PAYMENT_SELECTION_REQ, SERVICE_PAYMENT_SELECTION_RES, SESSION_SETUP_REQ, SESSION_SETUP_RES, SESSION_STOP_REQ, SESSION_STOP_RES, WELDING_DETECTION_REQ, WELDING_DETECTION_RES}
use Rattle.din_schema.specs.declared.kinds.TheConstants.{EMPTY_KIND, SESSION_SETUP_REQ_KIND, SESSION_SETUP_RES_KIND, SERVICE_DISCOVERY_REQ_KIND, SERVICE_DISCOVERY_RES_KIND, SERVICE_PAYMENT_SELECTION_REQ_KIND, SERVICE_PAYMENT_SELECTION_RES_KIND, SESSION_STOP_RES_KIND, CONTRACT_AUTHENTICATION_REQ_KIND, CONTRACT_AUTHENTICATION_RES_KIND, CHARGE_PARAMETER_DISCOVERY_REQ_KIND, CHARGE_PARAMETER_DISCOVERY_RES_KIND, POWER_DELIVERY_REQ_KIND, POWER_DELIVERY_RES_KIND, CURRENT_DEMAND_REQ_KIND, CURRENT_DEMAND_RES_KIND, CABLE_CHECK_REQ_KIND, CABLE_CHECK_RES_KIND, PRE_CHARGE_REQ_KIND, PRE_CHARGE_RES_KIND, WELDING_DETECTION_REQ_KIND, WELDING_DETECTION_RES_KIND}
use Rattle.din_setup.specs.Frame.{header_parts}
use Rattle.din_setup.specs.Session.{session_setup_req_parts, session_setup_res_parts, contract_authentication_req_given, contract_authentication_req_parts, contract_authentication_res_parts, session_stop_res_parts}
use Rattle.din_setup.specs.Services.{service_discovery_req_parts, service_discovery_res_parts}
use Rattle.din_setup.specs.Selection.{service_payment_selection_req_parts, service_payment_selection_res_parts}
use Rattle.din_power.specs.Discovery.{charge_parameter_discovery_req_parts, charge_parameter_discovery_res_parts}
use Rattle.din_power.specs.Charging.{cable_check_req_parts, cable_check_res_parts, pre_charge_req_parts, pre_charge_res_parts, current_demand_req_parts, current_demand_res_parts, welding_detection_req_parts, welding_detection_res_parts}
use Rattle.din_power.specs.Delivery.{power_delivery_req_parts, power_delivery_res_parts}
use Rattle.din_message.specs.declared.message.BodyElement.{BodyElement}
use Rattle.din_message.specs.declared.message.BodyElement.TheVariants as body_element
use Rattle.din_message.specs.declared.message.Body.{Body}
use Rattle.din_message.specs.declared.message.DinMessage.{DinMessage}

-- the elements of BodyElement in the profile, with their kinds
abbrev pub body_element_members : List (ℕ × ℕ)
body_element_members =
    (CABLE_CHECK_REQ, CABLE_CHECK_REQ_KIND)
    ∷ (CABLE_CHECK_RES, CABLE_CHECK_RES_KIND)
    ∷ (CHARGE_PARAMETER_DISCOVERY_REQ, CHARGE_PARAMETER_DISCOVERY_REQ_KIND)
    ∷ (CHARGE_PARAMETER_DISCOVERY_RES, CHARGE_PARAMETER_DISCOVERY_RES_KIND)
    ∷ (CONTRACT_AUTHENTICATION_REQ, CONTRACT_AUTHENTICATION_REQ_KIND)
    ∷ (CONTRACT_AUTHENTICATION_RES, CONTRACT_AUTHENTICATION_RES_KIND)
    ∷ (CURRENT_DEMAND_REQ, CURRENT_DEMAND_REQ_KIND)
    ∷ (CURRENT_DEMAND_RES, CURRENT_DEMAND_RES_KIND)
    ∷ (POWER_DELIVERY_REQ, POWER_DELIVERY_REQ_KIND)
    ∷ (POWER_DELIVERY_RES, POWER_DELIVERY_RES_KIND)
    ∷ (PRE_CHARGE_REQ, PRE_CHARGE_REQ_KIND)
    ∷ (PRE_CHARGE_RES, PRE_CHARGE_RES_KIND)
    ∷ (SERVICE_DISCOVERY_REQ, SERVICE_DISCOVERY_REQ_KIND)
    ∷ (SERVICE_DISCOVERY_RES, SERVICE_DISCOVERY_RES_KIND)
    ∷ (SERVICE_PAYMENT_SELECTION_REQ, SERVICE_PAYMENT_SELECTION_REQ_KIND)
    ∷ (SERVICE_PAYMENT_SELECTION_RES, SERVICE_PAYMENT_SELECTION_RES_KIND)
    ∷ (SESSION_SETUP_REQ, SESSION_SETUP_REQ_KIND)
    ∷ (SESSION_SETUP_RES, SESSION_SETUP_RES_KIND)
    ∷ (SESSION_STOP_REQ, EMPTY_KIND)
    ∷ (SESSION_STOP_RES, SESSION_STOP_RES_KIND)
    ∷ (WELDING_DETECTION_REQ, WELDING_DETECTION_REQ_KIND)
    ∷ (WELDING_DETECTION_RES, WELDING_DETECTION_RES_KIND)
    ∷ []

abbrev pub body_element_name : BodyElement → ℕ
body_element_name (body_element.CableCheckReq x) = CABLE_CHECK_REQ
body_element_name (body_element.CableCheckRes x) = CABLE_CHECK_RES
body_element_name (body_element.ChargeParameterDiscoveryReq x) = CHARGE_PARAMETER_DISCOVERY_REQ
body_element_name (body_element.ChargeParameterDiscoveryRes x) = CHARGE_PARAMETER_DISCOVERY_RES
body_element_name (body_element.ContractAuthenticationReq x) = CONTRACT_AUTHENTICATION_REQ
body_element_name (body_element.ContractAuthenticationRes x) = CONTRACT_AUTHENTICATION_RES
body_element_name (body_element.CurrentDemandReq x) = CURRENT_DEMAND_REQ
body_element_name (body_element.CurrentDemandRes x) = CURRENT_DEMAND_RES
body_element_name (body_element.PowerDeliveryReq x) = POWER_DELIVERY_REQ
body_element_name (body_element.PowerDeliveryRes x) = POWER_DELIVERY_RES
body_element_name (body_element.PreChargeReq x) = PRE_CHARGE_REQ
body_element_name (body_element.PreChargeRes x) = PRE_CHARGE_RES
body_element_name (body_element.ServiceDiscoveryReq x) = SERVICE_DISCOVERY_REQ
body_element_name (body_element.ServiceDiscoveryRes x) = SERVICE_DISCOVERY_RES
body_element_name (body_element.ServicePaymentSelectionReq x) = SERVICE_PAYMENT_SELECTION_REQ
body_element_name (body_element.ServicePaymentSelectionRes x) = SERVICE_PAYMENT_SELECTION_RES
body_element_name (body_element.SessionSetupReq x) = SESSION_SETUP_REQ
body_element_name (body_element.SessionSetupRes x) = SESSION_SETUP_RES
body_element_name (body_element.SessionStopReq x) = SESSION_STOP_REQ
body_element_name (body_element.SessionStopRes x) = SESSION_STOP_RES
body_element_name (body_element.WeldingDetectionReq x) = WELDING_DETECTION_REQ
body_element_name (body_element.WeldingDetectionRes x) = WELDING_DETECTION_RES

abbrev pub body_element_inside : BodyElement → Inside
body_element_inside (body_element.CableCheckReq x) = holding (cable_check_req_parts x)
body_element_inside (body_element.CableCheckRes x) = holding (cable_check_res_parts x)
body_element_inside (body_element.ChargeParameterDiscoveryReq x) = holding (charge_parameter_discovery_req_parts x)
body_element_inside (body_element.ChargeParameterDiscoveryRes x) = holding (charge_parameter_discovery_res_parts x)
body_element_inside (body_element.ContractAuthenticationReq x) = holding_with (contract_authentication_req_given x) (contract_authentication_req_parts x)
body_element_inside (body_element.ContractAuthenticationRes x) = holding (contract_authentication_res_parts x)
body_element_inside (body_element.CurrentDemandReq x) = holding (current_demand_req_parts x)
body_element_inside (body_element.CurrentDemandRes x) = holding (current_demand_res_parts x)
body_element_inside (body_element.PowerDeliveryReq x) = holding (power_delivery_req_parts x)
body_element_inside (body_element.PowerDeliveryRes x) = holding (power_delivery_res_parts x)
body_element_inside (body_element.PreChargeReq x) = holding (pre_charge_req_parts x)
body_element_inside (body_element.PreChargeRes x) = holding (pre_charge_res_parts x)
body_element_inside (body_element.ServiceDiscoveryReq x) = holding (service_discovery_req_parts x)
body_element_inside (body_element.ServiceDiscoveryRes x) = holding (service_discovery_res_parts x)
body_element_inside (body_element.ServicePaymentSelectionReq x) = holding (service_payment_selection_req_parts x)
body_element_inside (body_element.ServicePaymentSelectionRes x) = holding (service_payment_selection_res_parts x)
body_element_inside (body_element.SessionSetupReq x) = holding (session_setup_req_parts x)
body_element_inside (body_element.SessionSetupRes x) = holding (session_setup_res_parts x)
body_element_inside (body_element.SessionStopReq x) = holding []
body_element_inside (body_element.SessionStopRes x) = holding (session_stop_res_parts x)
body_element_inside (body_element.WeldingDetectionReq x) = holding (welding_detection_req_parts x)
body_element_inside (body_element.WeldingDetectionRes x) = holding (welding_detection_res_parts x)

abbrev pub body_parts : Body → List Part
body_parts v =
    perhaps_one (mapped (λ x. (body_element_name x, body_element_inside x)) v.element)
    ∷ []

abbrev pub din_message_parts : DinMessage → List Part
din_message_parts v =
    one HEADER (holding (header_parts v.header))
    ∷ one BODY (holding (body_parts v.body))
    ∷ []
