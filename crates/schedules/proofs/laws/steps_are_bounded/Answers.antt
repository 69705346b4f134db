use Rattle.schedules.proofs.Bounded.{bounded}
use Rattle.schedules.proofs.laws.steps_are_bounded.Goals as goal

pub returns : goal.returns
returns c = bounded
