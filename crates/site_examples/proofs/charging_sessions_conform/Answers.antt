use Rattle.site_examples.proofs.OneCharge.{session_conforms}
use Rattle.site_examples.proofs.charging_sessions_conform.Goals as goal

pub returns : goal.returns
returns g c = session_conforms _
