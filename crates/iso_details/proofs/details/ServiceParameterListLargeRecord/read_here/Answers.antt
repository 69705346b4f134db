use Rattle.std.proofs.Common.{refl, []}
use Rattle.iso_schema.specs.Declarations.{kinds}
use Rattle.iso_schema.specs.Selection.{service_parameter_list}
use Rattle.iso_details.proofs.details.ServiceParameterListLargeRecord.read_here.Goals as goal

pub returns-clause-read : goal.returns-clause-read
returns-clause-read g c = λ F told h.
    let at_first = c.in_ok-first_child.ensures.read kinds F [] service_parameter_list _ h in
    c.in_ok-records_here.ensures.read F [] service_parameter_list 0 _ at_first refl refl refl
