use Rattle.pipe_laws.proofs.Shown as shown
use Rattle.pipe_laws.proofs.pasts_show_steps.Goals as goal

pub returns : goal.returns
returns c = shown.pasts_show_steps
