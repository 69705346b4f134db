use Rattle.site_examples.proofs.LaterSession.{later_conforms}
use Rattle.site_examples.proofs.later_sessions_conform.Goals as goal

pub returns : goal.returns
returns g = later_conforms
