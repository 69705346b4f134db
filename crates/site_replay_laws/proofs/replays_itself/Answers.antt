use Rattle.site_replay_laws.proofs.Same.{same_run}
use Rattle.site_replay_laws.proofs.replays_itself.Goals as goal

pub returns : goal.returns
returns g c = same_run _
