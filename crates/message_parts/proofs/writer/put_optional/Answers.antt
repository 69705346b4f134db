use Rattle.std.proofs.Common.{subst}
use Rattle.message_parts.specs.Contents.{holding_with, mapped, perhaps_onto}
use Rattle.message_parts.specs.Writing.{Writes, put_of}
use Rattle.message_parts.proofs.writer.put_optional.Goals as goal

pub returns-in-Some-clause-write : goal.returns-in-Some-clause-write
returns-in-Some-clause-write g c = λ F rest h.
    c.put_record.ensures.write F rest (subst (λ o. Writes F (perhaps_onto c.args.name (mapped (λ x. holding_with (g.T.PutRecord.given x) (g.T.PutRecord.parts x)) o) rest) (put_of c.args.writer.now)) c.in-Some.is h)
