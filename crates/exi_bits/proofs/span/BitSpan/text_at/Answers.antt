use Rattle.exi_bits.proofs.Spans.{held}
use Rattle.exi_bits.proofs.span.BitSpan.text_at.Goals as goal

pub invariant_of-result : goal.invariant_of-result
invariant_of-result c = (c.requires.room, held _ _ c.requires.spelled.1)
