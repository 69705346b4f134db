use Rattle.exi_writing.proofs.LengthLaws.{ordinal_long}
use Rattle.exi_writing.proofs.needed.ordinal_bits.Goals as goal

pub returns-clause-bits : goal.returns-clause-bits
returns-clause-bits c = ordinal_long c.args.datatype c.in-Named.count c.args.ordinal c.index_width.result c.in-Named.is c.requires c.index_width.ensures.least
