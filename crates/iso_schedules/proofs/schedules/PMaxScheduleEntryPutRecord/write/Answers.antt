use Rattle.iso_schedules.proofs.schedules.PMaxScheduleEntryPutRecord.write.Goals as goal

pub returns-clause-write : goal.returns-clause-write
returns-clause-write g c = λ F rest h.
    c.put_record.ensures.write F _ (c.put_choice.ensures.write F _ h)
