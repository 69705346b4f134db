use Rattle.exi_bits.proofs.Spans.{items_of-held}
use Rattle.exi_bits.proofs.span.BitSpan.of.Goals as goal

pub returns-clause-items : goal.returns-clause-items
returns-clause-items c chars h = rw c.text_at.ensures (items_of-held _ chars h)
