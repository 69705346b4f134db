use Rattle.audit_course.proofs.Causing.{comes_driven_told}
use Rattle.audit_course.proofs.coming.comes_driven.Goals as goal

pub returns : goal.returns
returns g c steps reading known =
    comes_driven_told _ c.args.plan.now steps reading c.args.given c.args.taken c.args.course.now c.args.sessions.now c.args.contactor c.args.next.now
    c.lives.result c.breaks-broken.result c.closes.result c.has_cause.result c.any.result c.cause_of_word-word.result
    known c.lives.ensures c.breaks-broken.ensures c.closes.ensures (c.cause_of_word-word.ensures _ known.seen_is known.stands_is) c.has_cause.ensures c.any.ensures
