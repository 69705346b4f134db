-- ISO 15118-2:2014 8.4.3, details and selection of services, authorization, session stop: what elements of these types contain, part by part.
use Rattle.std.specs.Prelude.{ℕ, pos, map, List, [], ◌∷◌}
use Rattle.exi_documents.specs.Trees.{Truth, Ordinal, Number}
use Rattle.exi_schema.specs.declared.tables.AttributeOf.{AttributeOf}
use Rattle.iso_parts.specs.Contents.{Inside, Given, given, Part, Of, one, perhaps, each, mapped, holding, holding_with}
use Rattle.iso_parts.specs.Particles.{must}
use Rattle.iso_parts.specs.Texts.{text_value}
use Rattle.iso_schema.specs.declared.names.TheConstants.{RESPONSE_CODE, SERVICE_ID, SERVICE_PARAMETER_LIST, PARAMETER_SET, PARAMETER_SET_ID, PARAMETER, NAME, BOOL_VALUE, BYTE_VALUE, SHORT_VALUE, INT_VALUE, PHYSICAL_VALUE, STRING_VALUE}
use Rattle.iso_schema.specs.declared.kinds.TheConstants.{BOOLEAN_KIND, BYTE_KIND, SHORT_KIND, INT_KIND, TEXT64_KIND, PHYSICAL_VALUE_KIND}
use Rattle.iso_parts.specs.Codes.{response_code_ordinal}
use Rattle.iso_parts.specs.Values.{physical_value_parts}
use Rattle.iso_details.specs.declared.details.ParameterValue.{ParameterValue}
use Rattle.iso_details.specs.declared.details.ParameterValue.TheVariants as parameter_value
use Rattle.iso_details.specs.declared.details.Parameter.{Parameter}
use Rattle.iso_details.specs.declared.details.ParameterSet.{ParameterSet}
use Rattle.iso_details.specs.declared.details.ServiceParameterList.{ServiceParameterList}
use Rattle.iso_details.specs.declared.details.ServiceDetailReq.{ServiceDetailReq}
use Rattle.iso_details.specs.declared.details.ServiceDetailRes.{ServiceDetailRes}

-- the elements of ParameterValue in the profile, with their kinds
abbrev pub parameter_value_members : List (ℕ × ℕ)
parameter_value_members =
    (BOOL_VALUE, BOOLEAN_KIND)
    ∷ (BYTE_VALUE, BYTE_KIND)
    ∷ (SHORT_VALUE, SHORT_KIND)
    ∷ (INT_VALUE, INT_KIND)
    ∷ (PHYSICAL_VALUE, PHYSICAL_VALUE_KIND)
    ∷ (STRING_VALUE, TEXT64_KIND)
    ∷ []

abbrev pub parameter_value_name : ParameterValue → ℕ
parameter_value_name (parameter_value.Bool x) = BOOL_VALUE
parameter_value_name (parameter_value.Byte x) = BYTE_VALUE
parameter_value_name (parameter_value.Short x) = SHORT_VALUE
parameter_value_name (parameter_value.Int x) = INT_VALUE
parameter_value_name (parameter_value.Physical x) = PHYSICAL_VALUE
parameter_value_name (parameter_value.String x) = STRING_VALUE

abbrev pub parameter_value_inside : ParameterValue → Inside
parameter_value_inside (parameter_value.Bool x) = Of (Truth x)
parameter_value_inside (parameter_value.Byte x) = Of (Number x)
parameter_value_inside (parameter_value.Short x) = Of (Number x)
parameter_value_inside (parameter_value.Int x) = Of (Number x)
parameter_value_inside (parameter_value.Physical x) = holding (physical_value_parts x)
parameter_value_inside (parameter_value.String x) = Of (text_value x)

abbrev pub parameter_attributes : List AttributeOf
parameter_attributes = must NAME TEXT64_KIND ∷ []

abbrev pub parameter_given : Parameter → List Given
parameter_given v =
    given NAME (text_value v.name)
    ∷ []

abbrev pub parameter_parts : Parameter → List Part
parameter_parts v =
    one (parameter_value_name v.value) (parameter_value_inside v.value)
    ∷ []

abbrev pub parameter_set_parts : ParameterSet → List Part
parameter_set_parts v =
    one PARAMETER_SET_ID (Of (Number v.parameter_set_id))
    ∷ each PARAMETER (map (λ x. holding_with (parameter_given x) (parameter_parts x)) v.parameter.items)
    ∷ []

abbrev pub service_parameter_list_parts : ServiceParameterList → List Part
service_parameter_list_parts v =
    each PARAMETER_SET (map (λ x. holding (parameter_set_parts x)) v.parameter_set.items)
    ∷ []

abbrev pub service_detail_req_parts : ServiceDetailReq → List Part
service_detail_req_parts v =
    one SERVICE_ID (Of (Number (pos v.service_id)))
    ∷ []

abbrev pub service_detail_res_parts : ServiceDetailRes → List Part
service_detail_res_parts v =
    one RESPONSE_CODE (Of (Ordinal (response_code_ordinal v.response_code)))
    ∷ one SERVICE_ID (Of (Number (pos v.service_id)))
    ∷ perhaps SERVICE_PARAMETER_LIST (mapped (λ x. holding (service_parameter_list_parts x)) v.service_parameter_list)
    ∷ []
