use Rattle.told_pasts.specs.Site.{Shows}
use Rattle.told_pasts.specs.Steps.{seen_in}
use Rattle.audit_course.specs.Values.{course_of}
use Rattle.audit_records.proofs.Ordering.{seen_told, stands_told}
use Rattle.audited_posts.proofs.Reading.{shown_at}
use Rattle.audited_posts.proofs.posts.AuditedPost.asks.Goals as goal

pub returns : goal.returns
returns g c limit before behind past steps shown h share =
    let k = c.args.post in
    let v = c.args.self.now.kept in
    shown_at _ (Shows limit before behind) c.args.plan.now k steps c.args.entry.now c.judged-judged.result (course_of v.course) c.asks.result shown
    (c.judged-judged.ensures c.args.plan.now past steps h) h.kept_are.course_is
    (c.asks.ensures (seen_in steps) (seen_told k past steps v.sessions h.kept_are.seen_is h.kept_are.sessions_are) (stands_told k past steps v.contactor h.kept_are.seen_is h.kept_are.contactor_is)) share
