use Rattle.exi_spec.specs.Bits.{bits_of}
use Rattle.exi_bits.proofs.span.BitSpanDefault.default.Goals as goal

pub returns : goal.returns
unfolding bits_of
returns c = c.text_at.ensures
