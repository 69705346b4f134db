use Rattle.matched_pairs.proofs.PipeRuns as runs
use Rattle.matched_pairs.proofs.ending.pipe_runs_are_well.Goals as goal

pub returns : goal.returns
returns g c = runs.pipe_runs_are_well _ _
