use Rattle.station_laws.proofs.PostRuns.{run_posts}
use Rattle.station_laws.proofs.runs_of_posts.Goals as goal

pub returns : goal.returns
returns g c = run_posts _
