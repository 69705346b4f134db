use Rattle.faultless_pasts.proofs.Checks.{faultless_is_safe as holds}
use Rattle.faultless_pasts.proofs.faultless_is_safe.Goals as goal

pub returns : goal.returns
returns g c = holds _
