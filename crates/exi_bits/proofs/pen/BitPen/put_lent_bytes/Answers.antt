use Rattle.std.proofs.Common.{length, ap, arith}
use Rattle.exi_spec.proofs.BitLaws.{length-bits_of}
use Rattle.exi_bits.proofs.pen.BitPen.put_lent_bytes.Goals as goal

pub overflow_add-self : goal.overflow_add-self
overflow_add-self c =
    omega (arith, c.put_binary.ensures.long, length-bits_of c.contents.result, ap length c.contents.ensures.items, c.len.ensures.items, c.from.ensures, c.in_ok-room_for.ensures.fits, c.args.self.now.small)

pub invariant_of-self-clause-within : goal.invariant_of-self-clause-within
invariant_of-self-clause-within c =
    omega (arith, c.put_binary.ensures.long, length-bits_of c.contents.result, ap length c.contents.ensures.items, c.len.ensures.items, c.from.ensures, c.in_ok-room_for.ensures.fits, c.put_binary.auto.room)
