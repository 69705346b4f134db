-- Own: the parts of a reply that hold what is declared.
use Rattle.std.specs.Prelude.{[], ◌∷◌}
use Rattle.message_parts.specs.Contents.{one, holding, holding_with}
use Rattle.fitting_parts.specs.Fitting.{HoldsTrees, FitsParts}
use Rattle.iso_schema.specs.Declarations.{kinds}
use Rattle.iso_schema.specs.Selection.{parameter as particles}
use Rattle.iso_schema.specs.declared.kinds.TheConstants.{PARAMETER_KIND, PARAMETER_SET_KIND, SERVICE_PARAMETER_LIST_KIND, SERVICE_DETAIL_RES_KIND}
use Rattle.iso_details.specs.Details.{parameter_value_name, parameter_value_inside, parameter_given, parameter_parts, parameter_set_parts, service_parameter_list_parts, service_detail_res_parts}
use Rattle.iso_details.specs.declared.details.ParameterValue.{ParameterValue}
use Rattle.iso_details.specs.declared.details.Parameter.{Parameter}
use Rattle.iso_details.specs.declared.details.ParameterSet.{ParameterSet}
use Rattle.iso_details.specs.declared.details.ServiceParameterList.{ServiceParameterList}
use Rattle.iso_details.specs.declared.details.ServiceDetailRes.{ServiceDetailRes}

pub record IsHeldValue (v : ParameterValue) : Type 0 where
  pub held : FitsParts kinds particles (one (parameter_value_name v) (parameter_value_inside v) ∷ [])

pub record IsHeldParameter (p : Parameter) : Type 0 where
  pub held : HoldsTrees kinds PARAMETER_KIND (holding_with (parameter_given p) (parameter_parts p))

pub record IsHeldSet (s : ParameterSet) : Type 0 where
  pub held : HoldsTrees kinds PARAMETER_SET_KIND (holding (parameter_set_parts s))

pub record IsHeldList (l : ServiceParameterList) : Type 0 where
  pub held : HoldsTrees kinds SERVICE_PARAMETER_LIST_KIND (holding (service_parameter_list_parts l))

pub record IsHeldReply (r : ServiceDetailRes) : Type 0 where
  pub held : HoldsTrees kinds SERVICE_DETAIL_RES_KIND (holding (service_detail_res_parts r))
