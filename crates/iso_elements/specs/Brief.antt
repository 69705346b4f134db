-- ISO 15118-2:2014 8.3, message, header and body, and 8.5, data types: what elements of these types contain, part by part.
use Rattle.std.specs.Prelude.{ℕ, List, [], ◌∷◌}
use Rattle.message_parts.specs.Contents.{Inside, holding, holding_with}
use Rattle.iso_schema.specs.declared.names.TheConstants.{AUTHORIZATION_REQ, AUTHORIZATION_RES, CABLE_CHECK_REQ, CABLE_CHECK_RES, CHARGE_PARAMETER_DISCOVERY_REQ, CHARGING_STATUS_REQ, CHARGING_STATUS_RES, CURRENT_DEMAND_REQ, CURRENT_DEMAND_RES, PAYMENT_SERVICE_SELECTION_REQ, PAYMENT_SERVICE_SELECTION_RES, POWER_DELIVERY_REQ, POWER_DELIVERY_RES, PRE_CHARGE_REQ, PRE_CHARGE_RES, SERVICE_DETAIL_REQ, SERVICE_DISCOVERY_REQ, SESSION_SETUP_REQ, SESSION_SETUP_RES, SESSION_STOP_REQ, SESSION_STOP_RES, WELDING_DETECTION_REQ, WELDING_DETECTION_RES}
use Rattle.iso_schema.specs.declared.kinds.TheConstants.{EMPTY_KIND, SESSION_SETUP_REQ_KIND, SESSION_SETUP_RES_KIND, SERVICE_DISCOVERY_REQ_KIND, SERVICE_DETAIL_REQ_KIND, PAYMENT_SERVICE_SELECTION_REQ_KIND, PAYMENT_SERVICE_SELECTION_RES_KIND, AUTHORIZATION_REQ_KIND, AUTHORIZATION_RES_KIND, SESSION_STOP_REQ_KIND, SESSION_STOP_RES_KIND, CHARGE_PARAMETER_DISCOVERY_REQ_KIND, POWER_DELIVERY_REQ_KIND, POWER_DELIVERY_RES_KIND, CHARGING_STATUS_RES_KIND, CABLE_CHECK_REQ_KIND, CABLE_CHECK_RES_KIND, PRE_CHARGE_REQ_KIND, PRE_CHARGE_RES_KIND, CURRENT_DEMAND_REQ_KIND, CURRENT_DEMAND_RES_KIND, WELDING_DETECTION_REQ_KIND, WELDING_DETECTION_RES_KIND}
use Rattle.iso_setup.specs.Session.{session_setup_req_parts, session_setup_res_parts, authorization_req_given, authorization_req_parts, authorization_res_parts, session_stop_req_parts, session_stop_res_parts}
use Rattle.iso_setup.specs.Services.{service_discovery_req_parts}
use Rattle.iso_details.specs.Details.{service_detail_req_parts}
use Rattle.iso_setup.specs.Selection.{payment_service_selection_req_parts, payment_service_selection_res_parts}
use Rattle.iso_parameters.specs.Discovery.{charge_parameter_discovery_req_parts}
use Rattle.iso_power.specs.Charging.{cable_check_req_parts, cable_check_res_parts, pre_charge_req_parts, pre_charge_res_parts, current_demand_req_parts, current_demand_res_parts, welding_detection_req_parts, welding_detection_res_parts}
use Rattle.iso_delivery.specs.Delivery.{power_delivery_req_parts, power_delivery_res_parts, charging_status_res_parts}
use Rattle.iso_elements.specs.declared.brief.BriefElement.{BriefElement}
use Rattle.iso_elements.specs.declared.brief.BriefElement.TheVariants as brief_element

-- the elements of BodyElement that hold no long list, with their kinds
abbrev pub brief_element_members : List (ℕ × ℕ)
brief_element_members =
    (AUTHORIZATION_REQ, AUTHORIZATION_REQ_KIND)
    ∷ (AUTHORIZATION_RES, AUTHORIZATION_RES_KIND)
    ∷ (CABLE_CHECK_REQ, CABLE_CHECK_REQ_KIND)
    ∷ (CABLE_CHECK_RES, CABLE_CHECK_RES_KIND)
    ∷ (CHARGE_PARAMETER_DISCOVERY_REQ, CHARGE_PARAMETER_DISCOVERY_REQ_KIND)
    ∷ (CHARGING_STATUS_REQ, EMPTY_KIND)
    ∷ (CHARGING_STATUS_RES, CHARGING_STATUS_RES_KIND)
    ∷ (CURRENT_DEMAND_REQ, CURRENT_DEMAND_REQ_KIND)
    ∷ (CURRENT_DEMAND_RES, CURRENT_DEMAND_RES_KIND)
    ∷ (PAYMENT_SERVICE_SELECTION_REQ, PAYMENT_SERVICE_SELECTION_REQ_KIND)
    ∷ (PAYMENT_SERVICE_SELECTION_RES, PAYMENT_SERVICE_SELECTION_RES_KIND)
    ∷ (POWER_DELIVERY_REQ, POWER_DELIVERY_REQ_KIND)
    ∷ (POWER_DELIVERY_RES, POWER_DELIVERY_RES_KIND)
    ∷ (PRE_CHARGE_REQ, PRE_CHARGE_REQ_KIND)
    ∷ (PRE_CHARGE_RES, PRE_CHARGE_RES_KIND)
    ∷ (SERVICE_DETAIL_REQ, SERVICE_DETAIL_REQ_KIND)
    ∷ (SERVICE_DISCOVERY_REQ, SERVICE_DISCOVERY_REQ_KIND)
    ∷ (SESSION_SETUP_REQ, SESSION_SETUP_REQ_KIND)
    ∷ (SESSION_SETUP_RES, SESSION_SETUP_RES_KIND)
    ∷ (SESSION_STOP_REQ, SESSION_STOP_REQ_KIND)
    ∷ (SESSION_STOP_RES, SESSION_STOP_RES_KIND)
    ∷ (WELDING_DETECTION_REQ, WELDING_DETECTION_REQ_KIND)
    ∷ (WELDING_DETECTION_RES, WELDING_DETECTION_RES_KIND)
    ∷ []

abbrev pub brief_element_name : BriefElement → ℕ
brief_element_name (brief_element.AuthorizationReq x) = AUTHORIZATION_REQ
brief_element_name (brief_element.AuthorizationRes x) = AUTHORIZATION_RES
brief_element_name (brief_element.CableCheckReq x) = CABLE_CHECK_REQ
brief_element_name (brief_element.CableCheckRes x) = CABLE_CHECK_RES
brief_element_name (brief_element.ChargeParameterDiscoveryReq x) = CHARGE_PARAMETER_DISCOVERY_REQ
brief_element_name (brief_element.ChargingStatusReq x) = CHARGING_STATUS_REQ
brief_element_name (brief_element.ChargingStatusRes x) = CHARGING_STATUS_RES
brief_element_name (brief_element.CurrentDemandReq x) = CURRENT_DEMAND_REQ
brief_element_name (brief_element.CurrentDemandRes x) = CURRENT_DEMAND_RES
brief_element_name (brief_element.PaymentServiceSelectionReq x) = PAYMENT_SERVICE_SELECTION_REQ
brief_element_name (brief_element.PaymentServiceSelectionRes x) = PAYMENT_SERVICE_SELECTION_RES
brief_element_name (brief_element.PowerDeliveryReq x) = POWER_DELIVERY_REQ
brief_element_name (brief_element.PowerDeliveryRes x) = POWER_DELIVERY_RES
brief_element_name (brief_element.PreChargeReq x) = PRE_CHARGE_REQ
brief_element_name (brief_element.PreChargeRes x) = PRE_CHARGE_RES
brief_element_name (brief_element.ServiceDetailReq x) = SERVICE_DETAIL_REQ
brief_element_name (brief_element.ServiceDiscoveryReq x) = SERVICE_DISCOVERY_REQ
brief_element_name (brief_element.SessionSetupReq x) = SESSION_SETUP_REQ
brief_element_name (brief_element.SessionSetupRes x) = SESSION_SETUP_RES
brief_element_name (brief_element.SessionStopReq x) = SESSION_STOP_REQ
brief_element_name (brief_element.SessionStopRes x) = SESSION_STOP_RES
brief_element_name (brief_element.WeldingDetectionReq x) = WELDING_DETECTION_REQ
brief_element_name (brief_element.WeldingDetectionRes x) = WELDING_DETECTION_RES

abbrev pub brief_element_inside : BriefElement → Inside
brief_element_inside (brief_element.AuthorizationReq x) = holding_with (authorization_req_given x) (authorization_req_parts x)
brief_element_inside (brief_element.AuthorizationRes x) = holding (authorization_res_parts x)
brief_element_inside (brief_element.CableCheckReq x) = holding (cable_check_req_parts x)
brief_element_inside (brief_element.CableCheckRes x) = holding (cable_check_res_parts x)
brief_element_inside (brief_element.ChargeParameterDiscoveryReq x) = holding (charge_parameter_discovery_req_parts x)
brief_element_inside (brief_element.ChargingStatusReq x) = holding []
brief_element_inside (brief_element.ChargingStatusRes x) = holding (charging_status_res_parts x)
brief_element_inside (brief_element.CurrentDemandReq x) = holding (current_demand_req_parts x)
brief_element_inside (brief_element.CurrentDemandRes x) = holding (current_demand_res_parts x)
brief_element_inside (brief_element.PaymentServiceSelectionReq x) = holding (payment_service_selection_req_parts x)
brief_element_inside (brief_element.PaymentServiceSelectionRes x) = holding (payment_service_selection_res_parts x)
brief_element_inside (brief_element.PowerDeliveryReq x) = holding (power_delivery_req_parts x)
brief_element_inside (brief_element.PowerDeliveryRes x) = holding (power_delivery_res_parts x)
brief_element_inside (brief_element.PreChargeReq x) = holding (pre_charge_req_parts x)
brief_element_inside (brief_element.PreChargeRes x) = holding (pre_charge_res_parts x)
brief_element_inside (brief_element.ServiceDetailReq x) = holding (service_detail_req_parts x)
brief_element_inside (brief_element.ServiceDiscoveryReq x) = holding (service_discovery_req_parts x)
brief_element_inside (brief_element.SessionSetupReq x) = holding (session_setup_req_parts x)
brief_element_inside (brief_element.SessionSetupRes x) = holding (session_setup_res_parts x)
brief_element_inside (brief_element.SessionStopReq x) = holding (session_stop_req_parts x)
brief_element_inside (brief_element.SessionStopRes x) = holding (session_stop_res_parts x)
brief_element_inside (brief_element.WeldingDetectionReq x) = holding (welding_detection_req_parts x)
brief_element_inside (brief_element.WeldingDetectionRes x) = holding (welding_detection_res_parts x)
