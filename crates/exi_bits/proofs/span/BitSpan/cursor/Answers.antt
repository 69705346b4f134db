use Rattle.std.proofs.Common.{arith}
use Rattle.exi_spec.proofs.BitLaws.{length-bits_of}
use Rattle.exi_bits.proofs.span.BitSpan.cursor.Goals as goal

pub at-requires-clause-within : goal.at-requires-clause-within
at-requires-clause-within c = omega (arith, length-bits_of c.self.inside.payload.now, c.self.invariant.1.within)
