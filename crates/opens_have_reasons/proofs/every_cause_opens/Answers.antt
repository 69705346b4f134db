use Rattle.opens_have_reasons.proofs.Reasons.{every_cause_opens}
use Rattle.opens_have_reasons.proofs.every_cause_opens.Goals as goal

pub returns : goal.returns
returns g c = every_cause_opens _
