use Rattle.std.proofs.Common.{take, length}
use Rattle.std.proofs.lemmas.Result.{IfOk-weaker, IfErr-weaker}
use Rattle.app_protocol.specs.Messages.{message_of}
use Rattle.app_protocol.proofs.Encodings.{read_back}
use Rattle.app_protocol.proofs.Roots.{is_encoding, is_writable, passes, tells}
use Rattle.app_protocol.proofs.codec.write_app.Goals as goal

pub returns-clause-written : goal.returns-clause-written
returns-clause-written c = IfOk-weaker c.write.result _ _ (λ n. is_encoding c.args.message.now (take n c.write.new.room)) c.write.ensures.written

pub returns-clause-read : goal.returns-clause-read
returns-clause-read c =
    IfOk-weaker c.write.result _ _ (λ n e. read_back (message_of c.args.message.now) (take n c.write.new.room) c.requires.message (is_encoding c.args.message.now (take n c.write.new.room) e)) c.write.ensures.written

pub returns-clause-full : goal.returns-clause-full
returns-clause-full c =
    let both = passes c.args.message.now (length c.args.room.now) in
    (λ err. both.0 (c.write.ensures.full.0 err), λ more. c.write.ensures.full.1 (both.1 more))

pub returns-clause-bits : goal.returns-clause-bits
returns-clause-bits c = IfErr-weaker c.write.result _ _ (λ full. tells c.args.message.now full.bits) c.write.ensures.bits

pub write-requires-clause-message : goal.write-requires-clause-message
write-requires-clause-message c = is_writable c.args.message.now c.requires.message
