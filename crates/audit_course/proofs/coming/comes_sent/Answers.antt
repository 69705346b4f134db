use Rattle.audit_course.proofs.Causing.{comes_sent_told}
use Rattle.audit_course.proofs.coming.comes_sent.Goals as goal

pub returns : goal.returns
returns g c steps reading bytes said says known =
    comes_sent_told _ c.args.plan.now steps reading bytes said c.args.saying.now c.args.taken c.args.course.now c.args.sessions.now c.args.contactor c.args.next.now
    c.lives.result c.is_unmatched.result c.breaks-broken.result c.has_cause.result c.any.result c.cause_of_word-word.result
    says known c.lives.ensures c.is_unmatched.ensures c.breaks-broken.ensures (c.cause_of_word-word.ensures _ known.seen_is known.stands_is) c.has_cause.ensures c.any.ensures
