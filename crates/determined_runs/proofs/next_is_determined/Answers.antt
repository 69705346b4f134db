use Rattle.determined_runs.proofs.Once.{runs_are_determined}
use Rattle.determined_runs.proofs.next_is_determined.Goals as goal

pub returns : goal.returns
returns g c = runs_are_determined _
