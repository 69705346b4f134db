use Rattle.std.proofs.Common.{arith}
use Rattle.exi_writing.proofs.LengthLaws.{hit_long}
use Rattle.exi_writing.proofs.needed.hit_bits.Goals as goal

pub returns-clause-bits : goal.returns-clause-bits
returns-clause-bits c =
    hit_long c.args.announced c.args.count c.args.index c.unsigned_bits.result c.index_width.result _ c.requires c.index_width.ensures.least c.unsigned_bits.ensures.bits (omega (arith, c.from.ensures, c.from-2.ensures))
