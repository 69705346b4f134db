use Rattle.iso_details.proofs.details.ParameterSetPutRecord.write.Goals as goal

pub returns-clause-write : goal.returns-clause-write
returns-clause-write g c = λ F rest h.
    c.put_records.ensures.write F _ (c.put_value.ensures.write F _ h)
