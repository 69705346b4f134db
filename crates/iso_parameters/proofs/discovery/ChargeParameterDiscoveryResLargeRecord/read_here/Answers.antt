use Rattle.std.proofs.Common.{refl, []}
use Rattle.iso_schema.specs.Declarations.{kinds}
use Rattle.iso_schema.specs.Parameters.{charge_parameter_discovery_res}
use Rattle.iso_parameters.proofs.discovery.ChargeParameterDiscoveryResLargeRecord.read_here.Goals as goal

pub returns-clause-read : goal.returns-clause-read
returns-clause-read g c = λ F told h.
    let at_first = c.in_ok-first_child.ensures.read kinds F [] charge_parameter_discovery_res _ h in
    let at_response_code = c.in_ok-self.ensures.read kinds F [] charge_parameter_discovery_res 0 _ at_first refl refl in
    let at_evse_processing = c.in_ok-self-2.ensures.read kinds F [] charge_parameter_discovery_res 1 _ at_response_code refl refl in
    let at_sa_schedules = c.in_ok-optional_choice_here.ensures.read F [] charge_parameter_discovery_res 2 _ at_evse_processing refl refl in
    c.in_ok-self-3.ensures.read F [] charge_parameter_discovery_res 3 _ at_sa_schedules refl refl
