use Rattle.din_power.proofs.charging.WeldingDetectionReqPutRecord.write.Goals as goal

pub returns-clause-write : goal.returns-clause-write
returns-clause-write g c = λ F rest h.
    c.put_record.ensures.write F _ h
