use Rattle.std.proofs.Common.{refl, []}
use Rattle.iso_schema.specs.Declarations.{kinds}
use Rattle.iso_schema.specs.Selection.{service_detail_res}
use Rattle.iso_details.proofs.details.ServiceDetailResLargeRecord.read_here.Goals as goal

pub returns-clause-read : goal.returns-clause-read
returns-clause-read g c = λ F told h.
    let at_first = c.in_ok-first_child.ensures.read kinds F [] service_detail_res _ h in
    let at_response_code = c.in_ok-self.ensures.read kinds F [] service_detail_res 0 _ at_first refl refl in
    let at_service_id = c.in_ok-self-2.ensures.read kinds F [] service_detail_res 1 _ at_response_code refl refl in
    c.in_ok-optional_here.ensures.read F [] service_detail_res 2 _ at_service_id refl refl refl
