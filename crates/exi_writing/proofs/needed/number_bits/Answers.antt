use Rattle.exi_writing.proofs.LengthLaws.{number_bounded}
use Rattle.exi_writing.proofs.needed.number_bits.Goals as goal

pub returns-in-Bounded-clause-bits : goal.returns-in-Bounded-clause-bits
returns-in-Bounded-clause-bits c = number_bounded c.args.datatype _ c.args.value c.in-Bounded.count c.index_width.result c.in-Bounded.is c.requires c.index_width.ensures.least
