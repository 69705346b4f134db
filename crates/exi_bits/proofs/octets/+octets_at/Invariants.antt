use Rattle.exi_bits.proofs.octets.+octets_at.Given as goal

abbrev pub decreases-octets_at : goal.decreases-octets_at
decreases-octets_at l = l.most
