use Rattle.std.proofs.Common.{arith}
use Rattle.std.proofs.lemmas.List.{length-drop}
use Rattle.exi_spec.specs.Bits.{bits_of}
use Rattle.exi_spec.proofs.BitLaws.{length-bits_of}
use Rattle.exi_bits.proofs.octets.bits_left.Goals as goal

pub returns-clause-left : goal.returns-clause-left
returns-clause-left c = omega (arith, length-drop c.args.bit (bits_of c.args.payload.now), length-bits_of c.args.payload.now)
