use Rattle.std.proofs.Common.{arith}
use Rattle.power_share.proofs.Totals.{others_le}
use Rattle.power_share.proofs.sharing.share_of.Goals as goal

pub overflow_sub-limit : goal.overflow_sub-limit
overflow_sub-limit c = omega (arith, others_le c.args.told.now c.args.post)

pub returns-clause-left : goal.returns-clause-left
returns-clause-left c = omega (arith, others_le c.args.told.now c.args.post)
