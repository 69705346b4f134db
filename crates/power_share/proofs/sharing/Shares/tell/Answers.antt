use Rattle.std.proofs.Common.{arith}
use Rattle.power_share.proofs.Totals.{told_within}
use Rattle.power_share.proofs.sharing.Shares.tell.Goals as goal

pub invariant_of-self : goal.invariant_of-self
invariant_of-self c =
    let told = c.self.inside.told in
    (omega arith, rw c.from.ensures (told_within told c.args.post c.share_of-watts.result c.self.inside.limit (omega arith) (omega arith)))

pub returns-clause-within : goal.returns-clause-within
returns-clause-within c =
    let told = c.self.inside.told in
    rw c.from.ensures (told_within told c.args.post c.share_of-watts.result c.self.inside.limit (omega arith) (omega arith))
