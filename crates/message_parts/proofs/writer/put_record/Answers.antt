use Rattle.std.proofs.Common.{subst, sym}
use Rattle.message_parts.specs.Contents.{holding_with, one_onto}
use Rattle.message_parts.specs.Writing.{Writes, put_of}
use Rattle.message_parts.proofs.writer.put_record.Goals as goal

pub returns-in-Some-clause-write : goal.returns-in-Some-clause-write
returns-in-Some-clause-write g c = λ F rest h. c.in-Some.ensures.write F rest h

pub returns-in-None-clause-write : goal.returns-in-None-clause-write
returns-in-None-clause-write g c = λ F rest h.
    c.put_record_parts.ensures.write F rest
    (subst (λ w. Writes F (one_onto c.args.name (holding_with (g.T.PutRecord.given c.args.value.now) (g.T.PutRecord.parts c.args.value.now)) rest) (put_of w)) (sym (c.put_at_once.ensures.none c.in-None.is)) h)
