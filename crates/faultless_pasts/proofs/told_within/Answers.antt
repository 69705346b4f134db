use Rattle.faultless_pasts.proofs.Told.{told_within as holds}
use Rattle.faultless_pasts.proofs.told_within.Goals as goal

pub returns : goal.returns
returns g c = holds _
