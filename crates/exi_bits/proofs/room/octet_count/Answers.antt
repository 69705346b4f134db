use Rattle.std.proofs.Common.{arith}
use Rattle.exi_bits.proofs.Shortest.{counts_none, counts_all}
use Rattle.exi_bits.proofs.room.octet_count.Goals as goal

pub returns-then-value-lt128-clause-count : goal.returns-then-value-lt128-clause-count
returns-then-value-lt128-clause-count c = counts_all c.args.value c.args.value 1 c.if-value-lt128.true (counts_none c.args.value (omega arith))
