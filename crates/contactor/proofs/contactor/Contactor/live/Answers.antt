use Rattle.std.proofs.Common.{ap, ◌∙◌}
use Rattle.contactor.specs.Calls.{Kept}
use Rattle.contactor.proofs.CallsLemmas.{holds}
use Rattle.contactor.proofs.contactor.Contactor.live.Goals as goal

pub returns-clause-whole : goal.returns-clause-whole
returns-clause-whole c = λ calls e. ap (λ (k : Kept). k.live) (c.self.view_is ∙ e) ∙ (holds calls).live
