use Rattle.std.proofs.Common.{◌<◌, length}
use Rattle.std.specs.List.{AllByRecursion}
use Rattle.exi_spec.specs.Bits.{bits_of}
use Rattle.exi_bits.specs.Written.{PutsFront}
use Rattle.exi_bits.proofs.lent.put_each_byte.Given as goal

abbrev pub invariant-loop-byte : goal.invariant-loop-byte
invariant-loop-byte l = record {
  range : AllByRecursion (λ byte. byte < 256) l.bytes;
  front : PutsFront bits_of l.fn.room l.room l.at l.wrote l.fn.bytes l.bytes;
}

abbrev pub decreases-loop-byte : goal.decreases-loop-byte
decreases-loop-byte l = length l.bytes
