use Rattle.std.proofs.Common.{subst}
use Rattle.message_parts.specs.Contents.{one_onto}
use Rattle.message_parts.specs.Writing.{Writes, put_of}
use Rattle.parts_examples.specs.Parts.{amount_name, amount_inside}
use Rattle.parts_examples.proofs.amounts.AmountPutChoice.write_member.Goals as goal

pub returns-in-Flag-clause-write : goal.returns-in-Flag-clause-write
returns-in-Flag-clause-write g c = λ F rest h.
    c.put_value.ensures.write F rest (subst (λ o. Writes F (one_onto (amount_name o) (amount_inside o) rest) (put_of c.args.writer.now)) c.in-Flag.is h)

pub returns-in-Step-clause-write : goal.returns-in-Step-clause-write
returns-in-Step-clause-write g c = λ F rest h.
    c.put_value-in-Step.ensures.write F rest (subst (λ o. Writes F (one_onto (amount_name o) (amount_inside o) rest) (put_of c.args.writer.now)) c.in-Step.is h)

pub returns-in-Short-clause-write : goal.returns-in-Short-clause-write
returns-in-Short-clause-write g c = λ F rest h.
    c.put_value-in-Short.ensures.write F rest (subst (λ o. Writes F (one_onto (amount_name o) (amount_inside o) rest) (put_of c.args.writer.now)) c.in-Short.is h)

pub returns-in-Whole-clause-write : goal.returns-in-Whole-clause-write
returns-in-Whole-clause-write g c = λ F rest h.
    c.put_value-in-Whole.ensures.write F rest (subst (λ o. Writes F (one_onto (amount_name o) (amount_inside o) rest) (put_of c.args.writer.now)) c.in-Whole.is h)

pub returns-in-Reading-clause-write : goal.returns-in-Reading-clause-write
returns-in-Reading-clause-write g c = λ F rest h.
    c.put_record.ensures.write F rest (subst (λ o. Writes F (one_onto (amount_name o) (amount_inside o) rest) (put_of c.args.writer.now)) c.in-Reading.is h)

pub returns-in-Word-clause-write : goal.returns-in-Word-clause-write
returns-in-Word-clause-write g c = λ F rest h.
    c.put_value-in-Word.ensures.write F rest (subst (λ o. Writes F (one_onto (amount_name o) (amount_inside o) rest) (put_of c.args.writer.now)) c.in-Word.is h)
