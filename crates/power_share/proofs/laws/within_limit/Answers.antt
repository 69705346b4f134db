use Rattle.power_share.proofs.Totals.{always_within}
use Rattle.power_share.proofs.laws.within_limit.Goals as goal

pub returns : goal.returns
returns c = always_within
