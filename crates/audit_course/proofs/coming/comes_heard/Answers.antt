use Rattle.audit_course.proofs.Causing.{comes_heard_told}
use Rattle.audit_course.proofs.coming.comes_heard.Goals as goal

pub returns : goal.returns
returns g c steps at bytes known stood live =
    comes_heard_told _ c.args.plan.now steps c.args.post at c.args.what.now bytes c.args.course.now c.args.sessions.now c.args.contactor c.args.next.now c.args.stood.standing c.args.stood.live
    c.is_due-due.result c.has_cause-outside.result c.brings.result c.has_cause-ends.result c.any.result c.cause_heard-heard.result c.cause_of_word-word.result
    known stood live (c.is_due-due.ensures _ known.seen_is) c.cause_heard-heard.ensures c.has_cause-outside.ensures c.brings.ensures
    (c.cause_of_word-word.ensures _ known.seen_is known.stands_is) c.has_cause-ends.ensures c.any.ensures
