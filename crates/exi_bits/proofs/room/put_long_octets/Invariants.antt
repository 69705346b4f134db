use Rattle.exi_bits.proofs.Shortest.{WroteOctets}
use Rattle.exi_bits.proofs.room.put_long_octets.Given as goal

abbrev pub invariant-loop-rest : goal.invariant-loop-rest
invariant-loop-rest l = WroteOctets l.fn.room l.room l.at l.wrote l.value l.rest

abbrev pub decreases-loop-rest : goal.decreases-loop-rest
decreases-loop-rest l = l.rest
