use Rattle.std.proofs.Common.{arith}
use Rattle.exi_spec.specs.Bits.{bits_of}
use Rattle.exi_spec.proofs.BitLaws.{length-bits_of}
use Rattle.exi_bits.proofs.Spans.{binary_held, held}
use Rattle.exi_bits.proofs.span.BitSpan.binary_at.Goals as goal

pub invariant_of-result : goal.invariant_of-result
invariant_of-result c =
    (c.requires.room, held _ _ (binary_held (bits_of c.args.payload.now) c.args.bit c.args.n (omega (arith, length-bits_of c.args.payload.now, c.requires.within))))
