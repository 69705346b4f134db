use Rattle.din_message.proofs.message.BodyPutRecord.write.Goals as goal

pub returns-clause-write : goal.returns-clause-write
returns-clause-write g c = λ F rest h.
    c.put_optional_choice.ensures.write F _ h
