use Rattle.std.proofs.Common.{rules, refl, []}
use Rattle.iso_schema.specs.Declarations.{kinds}
use Rattle.iso_schema.specs.Selection.{parameter_set}
use Rattle.iso_details.proofs.details.ParameterSetLargeRecord.read_here.Goals as goal

pub returns-clause-read : goal.returns-clause-read
returns-clause-read g c = λ F told h.
    let at_first = c.in_ok-first_child.ensures.read kinds F [] parameter_set _ h in
    let at_parameter_set_id = c.in_ok-self.ensures.read kinds F [] parameter_set 0 _ at_first refl refl in
    search (rules, c.in_ok-records_here.ensures.read F [] parameter_set 1 _ at_parameter_set_id refl refl refl)
