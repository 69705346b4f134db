use Rattle.std.proofs.Common.{ap, ◌∙◌}
use Rattle.session_words.specs.declared.code.Code.{Code}
use Rattle.audit_course.specs.Asking.{asked_if}
use Rattle.audit_course.proofs.course.TalkValues.asked_at.Goals as goal

pub returns : goal.returns
returns c =
    c.asked_if.ensures
    ∙ ap (λ (k : Code). asked_if k c.args.plan.now c.args.request.now.ask c.args.self.now.asked) (c.verdict_on.ensures c.args.facts 0 c.values_of-values.ensures).code_is
