use Rattle.std.proofs.Common.{subst}
use Rattle.message_fields.specs.Contents.{one_onto}
use Rattle.message_fields.specs.Writing.{Writes, put_of}
use Rattle.iso_parts.specs.Values.{evse_status_name, evse_status_inside}
use Rattle.iso_parts.proofs.values.EvseStatusPutChoice.write_member.Goals as goal

pub returns-in-Ac-clause-write : goal.returns-in-Ac-clause-write
returns-in-Ac-clause-write g c = λ F rest h.
    c.put_record.ensures.write F rest (subst (λ o. Writes F (one_onto (evse_status_name o) (evse_status_inside o) rest) (put_of c.args.writer.now)) c.in-Ac.is h)

pub returns-in-Dc-clause-write : goal.returns-in-Dc-clause-write
returns-in-Dc-clause-write g c = λ F rest h.
    c.put_record-in-Dc.ensures.write F rest (subst (λ o. Writes F (one_onto (evse_status_name o) (evse_status_inside o) rest) (put_of c.args.writer.now)) c.in-Dc.is h)
