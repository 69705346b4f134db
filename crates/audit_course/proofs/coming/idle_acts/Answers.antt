use Rattle.audit_course.proofs.Causing.{answer_is_none, end_is_none}
use Rattle.audit_course.proofs.coming.idle_acts.Goals as goal

pub returns : goal.returns
returns g c = (
  λ plan steps reading bytes taken. answer_is_none _ plan steps reading bytes taken,
  λ plan steps reading cause taken. end_is_none _ plan steps reading cause taken,
)
