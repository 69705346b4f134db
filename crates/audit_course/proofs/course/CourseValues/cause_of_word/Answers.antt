use Rattle.std.proofs.Common.{Bool, ap, ◌∙◌}
use Rattle.session_words.specs.declared.facts.Facts.{Facts}
use Rattle.audit_course.specs.Coming.{cause_of_word, waits_in}
use Rattle.audit_course.specs.Values.{course_of}
use Rattle.audit_course.proofs.course.CourseValues.cause_of_word.Goals as goal

pub returns : goal.returns
returns c past seen stands =
    c.cause_by.ensures
    ∙ ap (λ (b : Bool). cause_of_word (course_of c.args.self.now).session b c.facts-facts.result c.args.plan.now c.args.next.now) c.is_waiting.ensures
    ∙ ap (λ (f : Facts). cause_of_word (course_of c.args.self.now).session (waits_in c.args.sessions.now.session) f c.args.plan.now c.args.next.now)
    (c.facts-facts.ensures past seen stands)
