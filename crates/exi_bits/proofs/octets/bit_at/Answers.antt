use Rattle.exi_spec.proofs.PlaceLaws.{drop-bits_of}
use Rattle.exi_bits.proofs.octets.bit_at.Goals as goal

pub returns : goal.returns
returns c = drop-bits_of _ _ c.requires
