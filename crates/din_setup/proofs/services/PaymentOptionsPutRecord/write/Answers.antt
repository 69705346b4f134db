use Rattle.din_setup.proofs.services.PaymentOptionsPutRecord.write.Goals as goal

pub returns-clause-write : goal.returns-clause-write
returns-clause-write g c = λ F rest h.
    c.put_values.ensures.write F _ h
