use Rattle.std.proofs.Common.{rules, refl, []}
use Rattle.din_schema.specs.Declarations.{kinds}
use Rattle.din_schema.specs.Parameters.{p_max_schedule}
use Rattle.din_power.proofs.schedules.PMaxScheduleLargeRecord.read_here.Goals as goal

pub returns-clause-read : goal.returns-clause-read
returns-clause-read g c = λ F told h.
    let at_first = c.in_ok-first_child.ensures.read kinds F [] p_max_schedule _ h in
    let at_p_max_schedule_id = c.in_ok-self.ensures.read kinds F [] p_max_schedule 0 _ at_first refl refl in
    search (rules, c.in_ok-records_here.ensures.read F [] p_max_schedule 1 _ at_p_max_schedule_id refl refl refl)
