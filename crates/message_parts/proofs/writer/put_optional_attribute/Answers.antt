use Rattle.std.proofs.Common.{subst}
use Rattle.message_parts.specs.Contents.{mapped, maybe_onto}
use Rattle.message_parts.specs.Writing.{Writes, put_of}
use Rattle.message_parts.proofs.writer.put_optional_attribute.Goals as goal

pub returns-in-Some-clause-write : goal.returns-in-Some-clause-write
returns-in-Some-clause-write g c = λ F rest h.
    c.put_attribute.ensures.write F rest (subst (λ o. Writes F (maybe_onto c.args.name (mapped g.T.Simple.value o) rest) (put_of c.args.writer.now)) c.in-Some.is h)
