use Rattle.std.proofs.Common.{subst}
use Rattle.message_parts.specs.Contents.{one_onto}
use Rattle.message_parts.specs.Writing.{Writes, put_of}
use Rattle.parts_examples.specs.Parts.{cause_name, cause_inside}
use Rattle.parts_examples.proofs.amounts.CausePutChoice.write_member.Goals as goal

pub returns-in-Ended-clause-write : goal.returns-in-Ended-clause-write
returns-in-Ended-clause-write g c = λ F rest h.
    c.put_value.ensures.write F rest (subst (λ o. Writes F (one_onto (cause_name o) (cause_inside o) rest) (put_of c.args.writer.now)) c.in-Ended.is h)

pub returns-in-Stopped-clause-write : goal.returns-in-Stopped-clause-write
returns-in-Stopped-clause-write g c = λ F rest h.
    c.put_record.ensures.write F rest (subst (λ o. Writes F (one_onto (cause_name o) (cause_inside o) rest) (put_of c.args.writer.now)) c.in-Stopped.is h)
