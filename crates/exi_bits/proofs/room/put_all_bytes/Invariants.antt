use Rattle.std.proofs.Common.{◌*◌, take}
use Rattle.exi_spec.specs.Bits.{bits_of}
use Rattle.exi_bits.specs.Written.{Extends}
use Rattle.exi_bits.proofs.room.put_all_bytes.Given as goal

abbrev pub invariant-loop-i : goal.invariant-loop-i
invariant-loop-i l = Extends l.fn.room l.room l.at (8 * l.i) (bits_of (take l.i l.bytes))
