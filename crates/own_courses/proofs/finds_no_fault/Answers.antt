use Rattle.own_courses.proofs.Faultless.{finds_no_fault}
use Rattle.own_courses.proofs.finds_no_fault.Goals as goal

pub returns : goal.returns
returns g c = finds_no_fault _
