use Rattle.iso_details.proofs.details.ParameterPutRecord.write.Goals as goal

pub returns-clause-write : goal.returns-clause-write
returns-clause-write g c = λ F rest h.
    c.put_choice.ensures.write F _ (c.put_attribute.ensures.write F _ h)
