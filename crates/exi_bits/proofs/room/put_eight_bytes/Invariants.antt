use Rattle.std.proofs.Common.{◌-◌, ◌*◌}
use Rattle.exi_bits.proofs.Parts.{WroteParts}
use Rattle.exi_bits.proofs.room.put_eight_bytes.Given as goal

abbrev pub invariant-loop-i : goal.invariant-loop-i
invariant-loop-i l = WroteParts l.fn.room l.room (8 * l.first) 64 l.word (64 - 8 * l.i)
