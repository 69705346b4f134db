use Rattle.std.proofs.Common.{refl, arith}
use Rattle.exi_bits.proofs.Penned.{length-written}
use Rattle.exi_bits.proofs.pen.BitPen.room_for.Goals as goal

pub returns-then-needed-self-clause-full : goal.returns-then-needed-self-clause-full
returns-then-needed-self-clause-full c =
    ((λ _. omega (arith, c.if-needed-self.true, c.from.ensures, length-written c.args.self.now)), (λ _. refl))

pub returns-then-needed-self-clause-bits : goal.returns-then-needed-self-clause-bits
returns-then-needed-self-clause-bits c = omega (arith, c.from.ensures, length-written c.args.self.now)
