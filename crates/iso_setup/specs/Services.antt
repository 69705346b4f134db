-- ISO 15118-2:2014 8.4.3, session setup and services: what elements of these types contain, part by part.
use Rattle.std.specs.Prelude.{pos, map, List, [], ◌∷◌}
use Rattle.exi_documents.specs.Trees.{Truth, Ordinal, Number}
use Rattle.message_parts.specs.Contents.{Part, Of, one, perhaps, each, mapped, holding}
use Rattle.message_parts.specs.Texts.{text_value}
use Rattle.iso_schema.specs.declared.names.TheConstants.{RESPONSE_CODE, SERVICE_SCOPE, SERVICE_CATEGORY, PAYMENT_OPTION_LIST, CHARGE_SERVICE, SERVICE_LIST, PAYMENT_OPTION, SERVICE_ID, SERVICE_NAME, FREE_SERVICE, SUPPORTED_ENERGY_TRANSFER_MODE, ENERGY_TRANSFER_MODE, SERVICE}
use Rattle.iso_parts.specs.Codes.{response_code_ordinal, service_category_ordinal, payment_option_ordinal, energy_transfer_mode_ordinal}
use Rattle.iso_setup.specs.declared.services.Service.{Service}
use Rattle.iso_setup.specs.declared.services.ServiceList.{ServiceList}
use Rattle.iso_setup.specs.declared.services.SupportedEnergyTransferMode.{SupportedEnergyTransferMode}
use Rattle.iso_setup.specs.declared.services.ChargeService.{ChargeService}
use Rattle.iso_setup.specs.declared.services.PaymentOptionList.{PaymentOptionList}
use Rattle.iso_setup.specs.declared.services.ServiceDiscoveryReq.{ServiceDiscoveryReq}
use Rattle.iso_setup.specs.declared.services.ServiceDiscoveryRes.{ServiceDiscoveryRes}

abbrev pub service_parts : Service → List Part
service_parts v =
    one SERVICE_ID (Of (Number (pos v.service_id)))
    ∷ perhaps SERVICE_NAME (mapped (λ x. Of (text_value x)) v.service_name)
    ∷ one SERVICE_CATEGORY (Of (Ordinal (service_category_ordinal v.service_category)))
    ∷ perhaps SERVICE_SCOPE (mapped (λ x. Of (text_value x)) v.service_scope)
    ∷ one FREE_SERVICE (Of (Truth v.free_service))
    ∷ []

abbrev pub service_list_parts : ServiceList → List Part
service_list_parts v =
    each SERVICE (map (λ x. holding (service_parts x)) v.service.items)
    ∷ []

abbrev pub supported_energy_transfer_mode_parts : SupportedEnergyTransferMode → List Part
supported_energy_transfer_mode_parts v =
    each ENERGY_TRANSFER_MODE (map (λ x. Of (Ordinal (energy_transfer_mode_ordinal x))) v.energy_transfer_mode.items)
    ∷ []

abbrev pub charge_service_parts : ChargeService → List Part
charge_service_parts v =
    one SERVICE_ID (Of (Number (pos v.service_id)))
    ∷ perhaps SERVICE_NAME (mapped (λ x. Of (text_value x)) v.service_name)
    ∷ one SERVICE_CATEGORY (Of (Ordinal (service_category_ordinal v.service_category)))
    ∷ perhaps SERVICE_SCOPE (mapped (λ x. Of (text_value x)) v.service_scope)
    ∷ one FREE_SERVICE (Of (Truth v.free_service))
    ∷ one SUPPORTED_ENERGY_TRANSFER_MODE (holding (supported_energy_transfer_mode_parts v.supported_energy_transfer_mode))
    ∷ []

abbrev pub payment_option_list_parts : PaymentOptionList → List Part
payment_option_list_parts v =
    each PAYMENT_OPTION (map (λ x. Of (Ordinal (payment_option_ordinal x))) v.payment_option.items)
    ∷ []

abbrev pub service_discovery_req_parts : ServiceDiscoveryReq → List Part
service_discovery_req_parts v =
    perhaps SERVICE_SCOPE (mapped (λ x. Of (text_value x)) v.service_scope)
    ∷ perhaps SERVICE_CATEGORY (mapped (λ x. Of (Ordinal (service_category_ordinal x))) v.service_category)
    ∷ []

abbrev pub service_discovery_res_parts : ServiceDiscoveryRes → List Part
service_discovery_res_parts v =
    one RESPONSE_CODE (Of (Ordinal (response_code_ordinal v.response_code)))
    ∷ one PAYMENT_OPTION_LIST (holding (payment_option_list_parts v.payment_option_list))
    ∷ one CHARGE_SERVICE (holding (charge_service_parts v.charge_service))
    ∷ perhaps SERVICE_LIST (mapped (λ x. holding (service_list_parts x)) v.service_list)
    ∷ []
