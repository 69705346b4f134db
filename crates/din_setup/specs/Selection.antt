-- DIN SPEC 70121:2014 9.4, session setup to session stop: what elements of these types contain, part by part.
use Rattle.std.specs.Prelude.{pos, map, List, [], ◌∷◌}
use Rattle.exi_documents.specs.Trees.{Ordinal, Number}
use Rattle.din_parts.specs.Contents.{Part, Of, one, perhaps, each, mapped, holding}
use Rattle.din_schema.specs.declared.names.TheConstants.{RESPONSE_CODE, SERVICE_ID, SELECTED_PAYMENT_OPTION, SELECTED_SERVICE_LIST, SELECTED_SERVICE, PARAMETER_SET_ID}
use Rattle.din_parts.specs.Codes.{response_code_ordinal, payment_option_ordinal}
use Rattle.din_setup.specs.declared.selection.SelectedService.{SelectedService}
use Rattle.din_setup.specs.declared.selection.SelectedServiceList.{SelectedServiceList}
use Rattle.din_setup.specs.declared.selection.ServicePaymentSelectionReq.{ServicePaymentSelectionReq}
use Rattle.din_setup.specs.declared.selection.ServicePaymentSelectionRes.{ServicePaymentSelectionRes}

abbrev pub selected_service_parts : SelectedService → List Part
selected_service_parts v =
    one SERVICE_ID (Of (Number (pos v.service_id)))
    ∷ perhaps PARAMETER_SET_ID (mapped (λ x. Of (Number x)) v.parameter_set_id)
    ∷ []

abbrev pub selected_service_list_parts : SelectedServiceList → List Part
selected_service_list_parts v =
    each SELECTED_SERVICE (map (λ x. holding (selected_service_parts x)) v.selected_service.items)
    ∷ []

abbrev pub service_payment_selection_req_parts : ServicePaymentSelectionReq → List Part
service_payment_selection_req_parts v =
    one SELECTED_PAYMENT_OPTION (Of (Ordinal (payment_option_ordinal v.selected_payment_option)))
    ∷ one SELECTED_SERVICE_LIST (holding (selected_service_list_parts v.selected_service_list))
    ∷ []

abbrev pub service_payment_selection_res_parts : ServicePaymentSelectionRes → List Part
service_payment_selection_res_parts v =
    one RESPONSE_CODE (Of (Ordinal (response_code_ordinal v.response_code)))
    ∷ []
