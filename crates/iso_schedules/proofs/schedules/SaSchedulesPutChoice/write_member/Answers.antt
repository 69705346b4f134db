use Rattle.std.proofs.Common.{◌≡◌, refl}
use Rattle.iso_schedules.specs.declared.schedules.SaScheduleList.{SaScheduleList}
use Rattle.iso_schedules.specs.declared.schedules.SaSchedules.{SaSchedules}
use Rattle.iso_schedules.specs.declared.schedules.SaSchedules.TheVariants as sa_schedules
use Rattle.iso_schedules.proofs.schedules.SaSchedulesPutChoice.write_member.Goals as goal

only : (o : SaSchedules) → (x : SaScheduleList) × (o ≡ sa_schedules.SaScheduleList x)
only (sa_schedules.SaScheduleList x) = (x, refl)

pub returns-clause-write : goal.returns-clause-write
returns-clause-write g c = λ F rest h.
    let e = (only c.args.self.now).1 in
    c.put_record.ensures.write F rest (rw e (rw e at h))
