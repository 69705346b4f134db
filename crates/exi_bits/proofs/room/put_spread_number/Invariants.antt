use Rattle.exi_bits.proofs.Parts.{WroteParts}
use Rattle.exi_bits.proofs.room.put_spread_number.Given as goal

abbrev pub invariant-loop-left : goal.invariant-loop-left
invariant-loop-left l = WroteParts l.fn.room l.room l.at l.n l.value l.left

abbrev pub decreases-loop-left : goal.decreases-loop-left
decreases-loop-left l = l.left
