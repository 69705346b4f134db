use Rattle.schedules.proofs.OneBest.{same_best}
use Rattle.schedules.proofs.laws.one_best.Goals as goal

pub returns : goal.returns
returns c = same_best
