use Rattle.std.proofs.Common.{ap, ◌∙◌}
use Rattle.session_words.specs.declared.facts.Facts.{Facts}
use Rattle.audit_course.specs.Asking.{asked_by}
use Rattle.audit_course.specs.Values.{course_of}
use Rattle.audit_course.proofs.course.CourseValues.asks.Goals as goal

pub returns : goal.returns
returns c past seen stands =
    c.asked_by.ensures
    ∙ ap (λ (f : Facts). asked_by (course_of c.args.self.now).session f c.args.plan.now c.args.judged.now) (c.facts-facts.ensures past seen stands)
