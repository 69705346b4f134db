use Rattle.isolated_runs.proofs.Alone.{runs_are_isolated}
use Rattle.isolated_runs.proofs.posts_are_isolated.Goals as goal

pub returns : goal.returns
returns g c = runs_are_isolated _
