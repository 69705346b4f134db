use Rattle.audit_course.specs.Values.{course_of}
use Rattle.audit_course.proofs.Stepping.{heard_told}
use Rattle.audit_course.proofs.course.CourseValues.heard.Goals as goal

pub returns : goal.returns
returns c plan steps at bytes came same =
    heard_told plan steps c.args.post at c.args.what.now bytes _ (course_of c.args.self) _ c.then.ensures came same
