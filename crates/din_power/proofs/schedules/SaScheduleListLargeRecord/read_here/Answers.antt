use Rattle.std.proofs.Common.{refl, []}
use Rattle.din_schema.specs.Declarations.{kinds}
use Rattle.din_schema.specs.Parameters.{sa_schedule_list}
use Rattle.din_power.proofs.schedules.SaScheduleListLargeRecord.read_here.Goals as goal

pub returns-clause-read : goal.returns-clause-read
returns-clause-read g c = λ F told h.
    let at_first = c.in_ok-first_child.ensures.read kinds F [] sa_schedule_list _ h in
    c.in_ok-records_here.ensures.read F [] sa_schedule_list 0 _ at_first refl refl refl
