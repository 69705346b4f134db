use Rattle.std.proofs.Common.{ap, ◌∙◌}
use Rattle.post_spec.specs.Course.{Course}
use Rattle.told_pasts.specs.Course.{told_course}
use Rattle.told_pasts.specs.Steps.{seen_in}
use Rattle.audit_course.specs.Values.{course_of}
use Rattle.audit_records.proofs.Ordering.{seen_told, stands_told}
use Rattle.audited_posts.proofs.posts.AuditedPost.told_behind.Goals as goal

pub returns-clause-told : goal.returns-clause-told
returns-clause-told g c k past steps h reading is t session small =
    let v = c.args.self.now.kept in
    let read = c.read-course.ensures (seen_in steps) (told_course c.args.plan.now steps) reading (seen_told k past steps v.sessions h.kept_are.seen_is h.kept_are.sessions_are)
    (stands_told k past steps v.contactor h.kept_are.seen_is h.kept_are.contactor_is) (ap course_of c.copied.ensures ∙ h.kept_are.course_is) is in
    c.told_in.ensures.told t (ap (λ (x : Course). x.session) read ∙ session) small
