use Rattle.iso_details.proofs.details.ServiceDetailReqPutRecord.write.Goals as goal

pub returns-clause-write : goal.returns-clause-write
returns-clause-write g c = λ F rest h.
    c.put_value.ensures.write F _ h
