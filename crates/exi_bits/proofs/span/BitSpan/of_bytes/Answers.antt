use Rattle.exi_bits.proofs.Spans.{bytes_in_bytes}
use Rattle.exi_bits.proofs.span.BitSpan.of_bytes.Goals as goal

pub returns-clause-items : goal.returns-clause-items
returns-clause-items c = rw c.binary_at.ensures (bytes_in_bytes c.args.bytes.now c.type_inv.bytes)
