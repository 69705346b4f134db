use Rattle.opens_have_reasons.proofs.Reasons.{runs_open_for_reasons}
use Rattle.opens_have_reasons.proofs.opens_for_reasons.Goals as goal

pub returns : goal.returns
returns g c = runs_open_for_reasons _
