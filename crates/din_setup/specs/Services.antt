-- DIN SPEC 70121:2014 9.4, session setup to session stop: what elements of these types contain, part by part.
use Rattle.std.specs.Prelude.{pos, map, List, [], ◌∷◌}
use Rattle.exi_documents.specs.Trees.{Truth, Ordinal, Number}
use Rattle.din_parts.specs.Contents.{Part, Of, one, perhaps, each, mapped, holding}
use Rattle.din_parts.specs.Texts.{text_value}
use Rattle.din_schema.specs.declared.names.TheConstants.{RESPONSE_CODE, SERVICE_SCOPE, SERVICE_CATEGORY, PAYMENT_OPTIONS, CHARGE_SERVICE, SERVICE_LIST, PAYMENT_OPTION, SERVICE_TAG, FREE_SERVICE, ENERGY_TRANSFER_TYPE, SERVICE_ID, SERVICE_NAME, SERVICE}
use Rattle.din_parts.specs.Codes.{response_code_ordinal, service_category_ordinal, payment_option_ordinal, supported_energy_transfer_type_ordinal}
use Rattle.din_setup.specs.declared.services.ServiceTag.{ServiceTag}
use Rattle.din_setup.specs.declared.services.Service.{Service}
use Rattle.din_setup.specs.declared.services.ServiceList.{ServiceList}
use Rattle.din_setup.specs.declared.services.ChargeService.{ChargeService}
use Rattle.din_setup.specs.declared.services.PaymentOptions.{PaymentOptions}
use Rattle.din_setup.specs.declared.services.ServiceDiscoveryReq.{ServiceDiscoveryReq}
use Rattle.din_setup.specs.declared.services.ServiceDiscoveryRes.{ServiceDiscoveryRes}

abbrev pub service_tag_parts : ServiceTag → List Part
service_tag_parts v =
    one SERVICE_ID (Of (Number (pos v.service_id)))
    ∷ perhaps SERVICE_NAME (mapped (λ x. Of (text_value x)) v.service_name)
    ∷ one SERVICE_CATEGORY (Of (Ordinal (service_category_ordinal v.service_category)))
    ∷ perhaps SERVICE_SCOPE (mapped (λ x. Of (text_value x)) v.service_scope)
    ∷ []

abbrev pub service_parts : Service → List Part
service_parts v =
    one SERVICE_TAG (holding (service_tag_parts v.service_tag))
    ∷ one FREE_SERVICE (Of (Truth v.free_service))
    ∷ []

abbrev pub service_list_parts : ServiceList → List Part
service_list_parts v =
    each SERVICE (map (λ x. holding (service_parts x)) v.service.items)
    ∷ []

abbrev pub charge_service_parts : ChargeService → List Part
charge_service_parts v =
    one SERVICE_TAG (holding (service_tag_parts v.service_tag))
    ∷ one FREE_SERVICE (Of (Truth v.free_service))
    ∷ one ENERGY_TRANSFER_TYPE (Of (Ordinal (supported_energy_transfer_type_ordinal v.energy_transfer_type)))
    ∷ []

abbrev pub payment_options_parts : PaymentOptions → List Part
payment_options_parts v =
    each PAYMENT_OPTION (map (λ x. Of (Ordinal (payment_option_ordinal x))) v.payment_option.items)
    ∷ []

abbrev pub service_discovery_req_parts : ServiceDiscoveryReq → List Part
service_discovery_req_parts v =
    perhaps SERVICE_SCOPE (mapped (λ x. Of (text_value x)) v.service_scope)
    ∷ perhaps SERVICE_CATEGORY (mapped (λ x. Of (Ordinal (service_category_ordinal x))) v.service_category)
    ∷ []

abbrev pub service_discovery_res_parts : ServiceDiscoveryRes → List Part
service_discovery_res_parts v =
    one RESPONSE_CODE (Of (Ordinal (response_code_ordinal v.response_code)))
    ∷ one PAYMENT_OPTIONS (holding (payment_options_parts v.payment_options))
    ∷ one CHARGE_SERVICE (holding (charge_service_parts v.charge_service))
    ∷ perhaps SERVICE_LIST (mapped (λ x. holding (service_list_parts x)) v.service_list)
    ∷ []
