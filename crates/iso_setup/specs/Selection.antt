-- ISO 15118-2:2014 8.4.3, details and selection of services, authorization, session stop: what elements of these types contain, part by part.
use Rattle.std.specs.Prelude.{pos, map, List, [], ◌∷◌}
use Rattle.exi_documents.specs.Trees.{Ordinal, Number}
use Rattle.message_parts.specs.Contents.{Part, Of, one, perhaps, each, mapped, holding}
use Rattle.iso_schema.specs.declared.names.TheConstants.{RESPONSE_CODE, SERVICE_ID, PARAMETER_SET_ID, SELECTED_PAYMENT_OPTION, SELECTED_SERVICE_LIST, SELECTED_SERVICE}
use Rattle.iso_parts.specs.Codes.{response_code_ordinal, payment_option_ordinal}
use Rattle.iso_setup.specs.declared.selection.SelectedService.{SelectedService}
use Rattle.iso_setup.specs.declared.selection.SelectedServiceList.{SelectedServiceList}
use Rattle.iso_setup.specs.declared.selection.PaymentServiceSelectionReq.{PaymentServiceSelectionReq}
use Rattle.iso_setup.specs.declared.selection.PaymentServiceSelectionRes.{PaymentServiceSelectionRes}

abbrev pub selected_service_parts : SelectedService → List Part
selected_service_parts v =
    one SERVICE_ID (Of (Number (pos v.service_id)))
    ∷ perhaps PARAMETER_SET_ID (mapped (λ x. Of (Number x)) v.parameter_set_id)
    ∷ []

abbrev pub selected_service_list_parts : SelectedServiceList → List Part
selected_service_list_parts v =
    each SELECTED_SERVICE (map (λ x. holding (selected_service_parts x)) v.selected_service.items)
    ∷ []

abbrev pub payment_service_selection_req_parts : PaymentServiceSelectionReq → List Part
payment_service_selection_req_parts v =
    one SELECTED_PAYMENT_OPTION (Of (Ordinal (payment_option_ordinal v.selected_payment_option)))
    ∷ one SELECTED_SERVICE_LIST (holding (selected_service_list_parts v.selected_service_list))
    ∷ []

abbrev pub payment_service_selection_res_parts : PaymentServiceSelectionRes → List Part
payment_service_selection_res_parts v =
    one RESPONSE_CODE (Of (Ordinal (response_code_ordinal v.response_code)))
    ∷ []
