use Rattle.exi_writing.proofs.Numbers.{lacks_code}
use Rattle.exi_writing.proofs.items.put_code.Goals as goal

pub returns-clause-full : goal.returns-clause-full
returns-clause-full c = lacks_code c.args.pen.now c.args.count c.args.code c.index_width.result c.put_bits.result c.requires c.index_width.ensures.least c.put_bits.ensures.full.0
