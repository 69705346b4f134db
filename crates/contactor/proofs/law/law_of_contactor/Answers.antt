use Rattle.contactor.proofs.CallsLemmas.{holds}
use Rattle.contactor.proofs.law.law_of_contactor.Goals as goal

pub returns-clause-stands : goal.returns-clause-stands
returns-clause-stands c = λ calls. (holds calls).standing

pub returns-clause-live : goal.returns-clause-live
returns-clause-live c = λ calls. (holds calls).live
