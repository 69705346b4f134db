use Rattle.std.proofs.Common.{sym, ap, ◌∙◌}
use Rattle.session_words.specs.declared.code.Code.{Code}
use Rattle.session_rules.specs.Causes.{found_by}
use Rattle.audit_course.specs.declared.words.NextWord.{NextWord}
use Rattle.audit_course.specs.Coming.{found_as}
use Rattle.audit_course.specs.Values.{stage_of}
use Rattle.audit_course.proofs.course.TalkValues.found.Goals as goal

pub returns-in-Asked : goal.returns-in-Asked
returns-in-Asked c =
    c.found_by.ensures
    ∙ ap (λ (k : Code). found_by k c.in-Asked.request.ask) (c.verdict_on.ensures c.args.facts 0 c.values_of-values.ensures).code_is
    ∙ sym (ap (λ (w : NextWord). found_as (stage_of c.args.self.now) c.args.facts c.args.plan.now w) c.in-Asked.is)
