use Rattle.std.proofs.Common.{subst}
use Rattle.message_parts.specs.Contents.{one_onto}
use Rattle.message_parts.specs.Writing.{Writes, put_of}
use Rattle.app_protocol.specs.Messages.{root_name, root_inside}
use Rattle.app_protocol.proofs.message.AppMessagePutChoice.write_member.Goals as goal

pub returns-in-Req-clause-write : goal.returns-in-Req-clause-write
returns-in-Req-clause-write g c = λ F rest h.
    c.put_record.ensures.write F rest (subst (λ m. Writes F (one_onto (root_name m) (root_inside m) rest) (put_of c.args.writer.now)) c.in-Req.is h)

pub returns-in-Res-clause-write : goal.returns-in-Res-clause-write
returns-in-Res-clause-write g c = λ F rest h.
    c.put_record-in-Res.ensures.write F rest (subst (λ m. Writes F (one_onto (root_name m) (root_inside m) rest) (put_of c.args.writer.now)) c.in-Res.is h)
