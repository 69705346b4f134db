use Rattle.audit_course.specs.Values.{course_of}
use Rattle.audit_course.proofs.Stepping.{read_told}
use Rattle.audit_course.proofs.course.CourseValues.read.Goals as goal

pub returns : goal.returns
returns c past k reading seen stands same h =
    read_told past (course_of c.args.self) k _ c.args.plan.now reading c.facts-facts.result c.args.sessions.now.moment c.args.judged.now c.args.shown c.reading_if.ensures same
    (c.facts-facts.ensures past seen stands) seen.now_is h
