use Rattle.message_parts.proofs.Attributes.{starts}
use Rattle.message_parts.proofs.Ended.{all_read}
use Rattle.message_parts.proofs.children.record_here.Goals as goal

pub returns-clause-read : goal.returns-clause-read
returns-clause-read g c = λ F kind told h is.
    all_read c.read_here.result (λ _. g.T.PutRecord.given c.read_here.new.self) (λ _. g.T.PutRecord.parts c.read_here.new.self) _ F _ _ told _
    (c.read_here.ensures.read F told (starts _ F kind _ _ told _ h is g.T.PutRecord.apart))
