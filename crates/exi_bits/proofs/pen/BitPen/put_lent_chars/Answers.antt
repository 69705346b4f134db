use Rattle.std.proofs.Common.{length, ap, arith}
use Rattle.exi_spec.specs.Items.{shortest_chars}
use Rattle.exi_bits.proofs.pen.BitPen.put_lent_chars.Goals as goal

pub overflow_add-self : goal.overflow_add-self
overflow_add-self c =
    omega (arith, c.put_text.ensures.long, ap (λ l. length (shortest_chars l)) c.contents.ensures.items, c.in_ok-room_for_chars.ensures.fits, c.args.self.now.small)

pub invariant_of-self-clause-within : goal.invariant_of-self-clause-within
invariant_of-self-clause-within c =
    omega (arith, c.put_text.ensures.long, ap (λ l. length (shortest_chars l)) c.contents.ensures.items, c.in_ok-room_for_chars.ensures.fits, c.put_text.auto.room)
