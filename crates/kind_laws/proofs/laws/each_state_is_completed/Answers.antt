use Rattle.kind_laws.proofs.Completing.{begins}
use Rattle.kind_laws.proofs.laws.each_state_is_completed.Goals as goal

pub returns-clause-reached : goal.returns-clause-reached
returns-clause-reached c s events bits state h = begins s events bits state h

pub returns-clause-refused : goal.returns-clause-refused
returns-clause-refused c s payload why bit r = begins s r.events r.front r.state r.reached
