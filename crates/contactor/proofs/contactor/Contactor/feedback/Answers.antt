use Rattle.std.proofs.Common.{ap, ◌∙◌}
use Rattle.session_words.specs.declared.phase.Standing.{Standing}
use Rattle.contactor.specs.Standing.{is_against}
use Rattle.contactor.specs.Calls.{Kept}
use Rattle.contactor.proofs.CallsLemmas.{holds}
use Rattle.contactor.proofs.contactor.Contactor.feedback.Goals as goal

pub returns-clause-whole : goal.returns-clause-whole
returns-clause-whole c = λ calls e.
    c.is_against_order-against.ensures
    ∙ ap (λ (s : Standing). is_against s c.args.closed) (ap (λ (k : Kept). k.standing) (c.self.view_is ∙ e) ∙ (holds calls).standing)
