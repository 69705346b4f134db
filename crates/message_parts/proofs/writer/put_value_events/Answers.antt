use Rattle.message_parts.proofs.writer.put_value_events.Goals as goal

pub returns-clause-write : goal.returns-clause-write
returns-clause-write g c = λ F rest h. c.put_end.ensures.write F _ (c.put_content.ensures.write F _ (c.put_start.ensures.write F _ h))
