use Rattle.std.proofs.Common.{subst}
use Rattle.message_parts.specs.Contents.{mapped, choice_onto}
use Rattle.message_parts.specs.Writing.{Writes, put_of}
use Rattle.message_parts.proofs.writer.put_optional_choice.Goals as goal

pub returns-in-Some-clause-write : goal.returns-in-Some-clause-write
returns-in-Some-clause-write g c = λ F rest h.
    c.write_member.ensures.write F rest (subst (λ o. Writes F (choice_onto (mapped (λ v. (g.T.PutChoice.name v, g.T.PutChoice.inside v)) o) rest) (put_of c.args.writer.now)) c.in-Some.is h)
