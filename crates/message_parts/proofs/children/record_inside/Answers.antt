use Rattle.message_parts.proofs.Attributes.{starts}
use Rattle.message_parts.proofs.Ended.{all_read}
use Rattle.message_parts.proofs.children.record_inside.Goals as goal

pub returns-clause-read : goal.returns-clause-read
returns-clause-read g c = λ F kind told h is.
    all_read c.read.result g.T.PutRecord.given g.T.PutRecord.parts _ F _ _ told _ (c.read.ensures.read F told (starts _ F kind _ _ told _ h is g.T.PutRecord.apart))
