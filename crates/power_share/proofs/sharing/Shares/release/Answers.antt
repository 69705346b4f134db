use Rattle.std.proofs.Common.{arith}
use Rattle.power_share.proofs.Totals.{others_le}
use Rattle.power_share.proofs.sharing.Shares.release.Goals as goal

pub invariant_of-self : goal.invariant_of-self
invariant_of-self c = (omega arith, rw c.from-2.ensures (omega (arith, others_le c.self.inside.told c.args.post)))
