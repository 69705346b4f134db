use Rattle.std.proofs.Common.{arith}
use Rattle.exi_spec.proofs.BitLaws.{length-bits_of}
use Rattle.exi_bits.specs.Lent.{items_of}
use Rattle.exi_writing.proofs.Pens.{on_err}
use Rattle.exi_writing.proofs.items.put_bytes.Goals as goal

pub returns-clause-full : goal.returns-clause-full
returns-clause-full c = on_err c.put_lent_bytes.result _ (λ e. omega (arith, c.put_lent_bytes.ensures.full.0 e, length-bits_of (items_of c.args.span.now)))
