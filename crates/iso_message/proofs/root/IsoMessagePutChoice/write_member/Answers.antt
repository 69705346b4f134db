use Rattle.iso_message.proofs.root.IsoMessagePutChoice.write_member.Goals as goal

pub returns-clause-write : goal.returns-clause-write
returns-clause-write g c = λ F rest h. c.put_record.ensures.write F rest h
