use Rattle.iso_delivery.proofs.delivery.ProfileEntryPutRecord.write.Goals as goal

pub returns-clause-write : goal.returns-clause-write
returns-clause-write g c = λ F rest h.
    c.put_optional_value.ensures.write F _ (c.put_record.ensures.write F _ (c.put_value.ensures.write F _ h))
