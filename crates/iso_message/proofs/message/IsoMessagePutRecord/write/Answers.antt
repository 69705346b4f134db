use Rattle.iso_message.proofs.message.IsoMessagePutRecord.write.Goals as goal

pub returns-clause-write : goal.returns-clause-write
returns-clause-write g c = λ F rest h.
    c.put_record-2.ensures.write F _ (c.put_record.ensures.write F _ h)
