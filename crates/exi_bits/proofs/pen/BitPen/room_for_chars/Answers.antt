use Rattle.std.proofs.Common.{refl, arith}
use Rattle.exi_bits.specs.Lent.{items_of}
use Rattle.exi_bits.proofs.Penned.{length-written}
use Rattle.exi_bits.proofs.Lents.{few_bits}
use Rattle.exi_bits.proofs.pen.BitPen.room_for_chars.Goals as goal

pub returns-in-Ok-clause-fits : goal.returns-in-Ok-clause-fits
returns-in-Ok-clause-fits c = omega (arith, c.in-Ok.ensures.fits, c.len.ensures.items, c.from.ensures, few_bits (items_of c.args.span.now))

pub returns-in-Ok-clause-full : goal.returns-in-Ok-clause-full
returns-in-Ok-clause-full c =
    ((λ e. absurd cc), (λ needs. absurd (omega (arith, needs, length-written c.args.self.now, c.in-Ok.ensures.fits, c.len.ensures.items, c.from.ensures, few_bits (items_of c.args.span.now)))))
