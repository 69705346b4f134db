use Rattle.pilot_basic.proofs.laws.pauses.Goals as goal
use Rattle.pilot_basic.proofs.PauseLaws.{pauses}

pub returns : goal.returns
returns c = pauses
