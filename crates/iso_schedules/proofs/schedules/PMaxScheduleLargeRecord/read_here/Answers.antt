use Rattle.std.proofs.Common.{refl, []}
use Rattle.iso_schema.specs.Declarations.{kinds}
use Rattle.iso_schema.specs.Schedules.{p_max_schedule}
use Rattle.iso_schedules.proofs.schedules.PMaxScheduleLargeRecord.read_here.Goals as goal

pub returns-clause-read : goal.returns-clause-read
returns-clause-read g c = λ F told h.
    let at_first = c.in_ok-first_child.ensures.read kinds F [] p_max_schedule _ h in
    c.in_ok-records_here.ensures.read F [] p_max_schedule 0 _ at_first refl refl refl
