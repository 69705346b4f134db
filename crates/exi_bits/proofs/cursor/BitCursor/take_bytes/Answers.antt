use Rattle.std.proofs.Common.{arith}
use Rattle.exi_spec.specs.Bits.{bits_of}
use Rattle.exi_spec.proofs.BitLaws.{length-bits_of}
use Rattle.exi_bits.proofs.Taken.{bytes_took}
use Rattle.exi_bits.proofs.cursor.BitCursor.take_bytes.Goals as goal

pub returns-clause-ok : goal.returns-clause-ok
returns-clause-ok c =
    rw (← c.self.view_is, c.binary_at-span.ensures) (bytes_took (bits_of c.self.inside.payload.now) c.self.inside.place c.args.n
    (omega (arith, length-bits_of c.self.inside.payload.now, c.bits_left.ensures.sum, c.if-bits_left-n.false)))
