use Rattle.std.proofs.Common.{◌≡◌, refl}
use Rattle.iso_schedules.specs.declared.schedules.RelativeTimeInterval.{RelativeTimeInterval}
use Rattle.iso_schedules.specs.declared.schedules.TimeInterval.{TimeInterval}
use Rattle.iso_schedules.specs.declared.schedules.TimeInterval.TheVariants as time_interval
use Rattle.iso_schedules.proofs.schedules.TimeIntervalPutChoice.write_member.Goals as goal

only : (o : TimeInterval) → (x : RelativeTimeInterval) × (o ≡ time_interval.Relative x)
only (time_interval.Relative x) = (x, refl)

pub returns-clause-write : goal.returns-clause-write
returns-clause-write g c = λ F rest h.
    let e = (only c.args.self.now).1 in
    c.put_record.ensures.write F rest (rw e (rw e at h))
