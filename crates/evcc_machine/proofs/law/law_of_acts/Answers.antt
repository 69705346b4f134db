use Rattle.evcc_machine.proofs.Onward.{act_lessens}
use Rattle.evcc_machine.proofs.law.law_of_acts.Goals as goal

pub returns : goal.returns
returns g c = act_lessens _
