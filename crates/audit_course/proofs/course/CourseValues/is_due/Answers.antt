use Rattle.audit_course.specs.Values.{course_of}
use Rattle.audit_course.proofs.Causing.{due_told}
use Rattle.audit_course.proofs.course.CourseValues.is_due.Goals as goal

pub returns : goal.returns
returns c past seen =
    due_told (course_of c.args.self.now).session past c.args.sessions.now c.reached-reached.result c.is_set_up_in.result c.talks.result c.lives.result c.has_timeout.result c.all.result
    seen c.is_set_up_in.ensures (λ es t lives is. c.reached-reached.ensures past es t seen lives is) c.talks.ensures c.lives.ensures c.has_timeout.ensures c.all.ensures
