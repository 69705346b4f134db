use Rattle.std.proofs.Common.{arith}
use Rattle.exi_bits.proofs.Words.{no_byte_put, byte_put}
use Rattle.exi_bits.proofs.room.put_eight_bytes.Goals as goal

pub loop-i-init : goal.loop-i-init
loop-i-init c = no_byte_put c.args.room.now c.args.first c.args.word

pub loop-i-preserved : goal.loop-i-preserved
loop-i-preserved c =
    byte_put c.args.room.now c.loop-i.room c.args.first c.loop-i.i c.args.word c.loop-i-test.true (omega (arith, c.loop-i-test.true, c.requires, c.loop-i.auto.room)) c.loop-i.invariant
