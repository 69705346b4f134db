use Rattle.std.proofs.Common.{subst}
use Rattle.iso_parts.specs.Contents.{one_onto}
use Rattle.iso_parts.specs.Writing.{Writes, put_of}
use Rattle.iso_details.specs.Details.{parameter_value_name, parameter_value_inside}
use Rattle.iso_details.proofs.details.ParameterValuePutChoice.write_member.Goals as goal

pub returns-in-Bool-clause-write : goal.returns-in-Bool-clause-write
returns-in-Bool-clause-write g c = λ F rest h.
    c.put_value.ensures.write F rest (subst (λ o. Writes F (one_onto (parameter_value_name o) (parameter_value_inside o) rest) (put_of c.args.writer.now)) c.in-Bool.is h)

pub returns-in-Byte-clause-write : goal.returns-in-Byte-clause-write
returns-in-Byte-clause-write g c = λ F rest h.
    c.put_value-in-Byte.ensures.write F rest (subst (λ o. Writes F (one_onto (parameter_value_name o) (parameter_value_inside o) rest) (put_of c.args.writer.now)) c.in-Byte.is h)

pub returns-in-Short-clause-write : goal.returns-in-Short-clause-write
returns-in-Short-clause-write g c = λ F rest h.
    c.put_value-in-Short.ensures.write F rest (subst (λ o. Writes F (one_onto (parameter_value_name o) (parameter_value_inside o) rest) (put_of c.args.writer.now)) c.in-Short.is h)

pub returns-in-Int-clause-write : goal.returns-in-Int-clause-write
returns-in-Int-clause-write g c = λ F rest h.
    c.put_value-in-Int.ensures.write F rest (subst (λ o. Writes F (one_onto (parameter_value_name o) (parameter_value_inside o) rest) (put_of c.args.writer.now)) c.in-Int.is h)

pub returns-in-Physical-clause-write : goal.returns-in-Physical-clause-write
returns-in-Physical-clause-write g c = λ F rest h.
    c.put_record.ensures.write F rest (subst (λ o. Writes F (one_onto (parameter_value_name o) (parameter_value_inside o) rest) (put_of c.args.writer.now)) c.in-Physical.is h)

pub returns-in-String-clause-write : goal.returns-in-String-clause-write
returns-in-String-clause-write g c = λ F rest h.
    c.put_value-in-String.ensures.write F rest (subst (λ o. Writes F (one_onto (parameter_value_name o) (parameter_value_inside o) rest) (put_of c.args.writer.now)) c.in-String.is h)
