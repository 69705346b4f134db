use Rattle.std.proofs.Common.{◌≤◌}
use Rattle.exi_bits.proofs.Shortest.{CountsOctets}
use Rattle.exi_bits.proofs.room.long_octet_count.Given as goal

abbrev pub invariant-loop-rest : goal.invariant-loop-rest
invariant-loop-rest l = record { counted : CountsOctets l.value l.rest l.count; few : l.count ≤ 10 }

abbrev pub decreases-loop-rest : goal.decreases-loop-rest
decreases-loop-rest l = l.rest
