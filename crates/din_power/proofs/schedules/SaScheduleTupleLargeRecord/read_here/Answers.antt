use Rattle.std.proofs.Common.{rules, refl, []}
use Rattle.din_schema.specs.Declarations.{kinds}
use Rattle.din_schema.specs.Parameters.{sa_schedule_tuple}
use Rattle.din_power.proofs.schedules.SaScheduleTupleLargeRecord.read_here.Goals as goal

pub returns-clause-read : goal.returns-clause-read
returns-clause-read g c = λ F told h.
    let at_first = c.in_ok-first_child.ensures.read kinds F [] sa_schedule_tuple _ h in
    let at_sa_schedule_tuple_id = c.in_ok-self.ensures.read kinds F [] sa_schedule_tuple 0 _ at_first refl refl in
    let at_p_max_schedule = c.in_ok-required_here.ensures.read F [] sa_schedule_tuple 1 _ at_sa_schedule_tuple_id refl refl in
    search (rules, c.left_out.ensures.read kinds F [] sa_schedule_tuple 2 _ at_p_max_schedule refl)
