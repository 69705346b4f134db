use Rattle.pipe_facts.proofs.Calm as calm
use Rattle.pipe_facts.proofs.chargers_are_calm.Goals as goal

pub returns-clause-told : goal.returns-clause-told
returns-clause-told g c = calm.told_is_calm _ _

pub returns-clause-facts : goal.returns-clause-facts
returns-clause-facts g c = calm.facts_are_calm _ _

pub returns-clause-contactor : goal.returns-clause-contactor
returns-clause-contactor g c = calm.stays_opened _ _
