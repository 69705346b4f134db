use Rattle.pipe_facts.proofs.InTime as in_time
use Rattle.pipe_facts.proofs.chargers_are_in_time.Goals as goal

pub returns-clause-ready : goal.returns-clause-ready
returns-clause-ready g c = in_time.car_is_ready _ _

pub returns-clause-paid : goal.returns-clause-paid
returns-clause-paid g c = in_time.pays_in_time _ _

pub returns-clause-valid : goal.returns-clause-valid
returns-clause-valid g c = in_time.is_valid_in_time _ _
