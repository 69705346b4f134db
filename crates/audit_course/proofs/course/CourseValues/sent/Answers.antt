use Rattle.audit_course.specs.Values.{course_of}
use Rattle.audit_course.proofs.Stepping.{sent_told}
use Rattle.audit_course.proofs.course.CourseValues.sent.Goals as goal

pub returns : goal.returns
returns c plan steps reading bytes said is same =
    sent_told plan steps reading bytes said c.args.saying.now c.args.taken (course_of c.args.self) _ c.then_sent.ensures is same
