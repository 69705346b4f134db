use Rattle.std.proofs.Common.{◌≡◌, refl}
use Rattle.std.proofs.lemmas.Result.{IfOk-weaker}
use Rattle.din_power.specs.declared.schedules.SaScheduleList.{SaScheduleList}
use Rattle.din_power.specs.declared.schedules.SaSchedules.{SaSchedules}
use Rattle.din_power.specs.declared.schedules.SaSchedules.TheVariants as sa_schedules
use Rattle.din_power.proofs.schedules.sa_schedule_list.Goals as goal

only : (o : SaSchedules) → (x : SaScheduleList) × (o ≡ sa_schedules.SaScheduleList x)
only (sa_schedules.SaScheduleList x) = (x, refl)

pub returns-in-Some-SaScheduleList-clause-read : goal.returns-in-Some-SaScheduleList-clause-read
returns-in-Some-SaScheduleList-clause-read g c = λ F told h here.
    let e = (only c.in-Some-SaScheduleList.field-0).1 in
    rw e (IfOk-weaker c.member_here.result _ _ (λ _ it. (_, refl, it.0, it.1)) (c.member_here.ensures.read F _ _ _ told h here refl refl))
