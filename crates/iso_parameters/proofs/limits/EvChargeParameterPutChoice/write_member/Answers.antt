use Rattle.std.proofs.Common.{subst}
use Rattle.message_parts.specs.Contents.{one_onto}
use Rattle.message_parts.specs.Writing.{Writes, put_of}
use Rattle.iso_parameters.specs.Limits.{ev_charge_parameter_name, ev_charge_parameter_inside}
use Rattle.iso_parameters.proofs.limits.EvChargeParameterPutChoice.write_member.Goals as goal

pub returns-in-Ac-clause-write : goal.returns-in-Ac-clause-write
returns-in-Ac-clause-write g c = λ F rest h.
    c.put_record.ensures.write F rest (subst (λ o. Writes F (one_onto (ev_charge_parameter_name o) (ev_charge_parameter_inside o) rest) (put_of c.args.writer.now)) c.in-Ac.is h)

pub returns-in-Dc-clause-write : goal.returns-in-Dc-clause-write
returns-in-Dc-clause-write g c = λ F rest h.
    c.put_record-in-Dc.ensures.write F rest (subst (λ o. Writes F (one_onto (ev_charge_parameter_name o) (ev_charge_parameter_inside o) rest) (put_of c.args.writer.now)) c.in-Dc.is h)
