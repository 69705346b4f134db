use Rattle.blocks_of_runs.proofs.Cuts.{runs_are_blocks}
use Rattle.blocks_of_runs.proofs.runs_are_blocks.Goals as goal

pub returns : goal.returns
returns g c = runs_are_blocks _
