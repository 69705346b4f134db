use Rattle.std.proofs.Common.{refl}
use Rattle.audit_course.specs.Values.{course_of}
use Rattle.audit_course.proofs.course.CourseValues.facts.Goals as goal

pub returns : goal.returns
returns c past seen stands = c.facts.ensures past (course_of c.args.self.now) seen stands c.copied-kept.ensures refl refl
