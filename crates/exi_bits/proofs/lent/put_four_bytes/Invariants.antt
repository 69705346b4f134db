use Rattle.std.proofs.Common.{length}
use Rattle.exi_spec.specs.Bits.{bits_of}
use Rattle.exi_bits.specs.Written.{PutsFront}
use Rattle.exi_bits.proofs.lent.put_four_bytes.Given as goal

abbrev pub invariant-loop-word : goal.invariant-loop-word
invariant-loop-word l = PutsFront bits_of l.fn.room l.room l.at l.wrote l.fn.bytes l.bytes

abbrev pub decreases-loop-word : goal.decreases-loop-word
decreases-loop-word l = length l.bytes
