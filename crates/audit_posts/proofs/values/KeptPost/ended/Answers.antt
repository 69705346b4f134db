use Rattle.std.proofs.Common.{true, ◌∷◌, None, refl, sym, ap, ◌∙◌}
use Rattle.post_spec.specs.Course.{Course, acted}
use Rattle.post_spec.specs.Steps.{End}
use Rattle.told_pasts.specs.Course.{told_course}
use Rattle.told_pasts.specs.Steps.{Does, seen_in}
use Rattle.audit_mandates.specs.declared.values.MandateValues.{MandateValues}
use Rattle.audit_posts.proofs.Posts as posts
use Rattle.audit_posts.proofs.values.KeptPost.ended.Goals as goal

pub returns : goal.returns
returns g c past steps is h =
    let k = c.args.post in
    let plan = c.args.plan.now in
    let v = c.args.self in
    let same = posts.ended_seen k c.args.cause past steps c.args.entry.now is h.seen_is in
    let contactor_is = c.behind-contactor.ensures past h.contactor_is in
    record {
      seen_is = same;
      sessions_are = c.behind-sessions.ensures past h.sessions_are;
      contactor_is = contactor_is;
      mandate_is = c.ended-mandate.ensures.behind steps c.args.cause true h.mandate_is;
      ac_is = h.ac_is ∙ sym (ap (λ (m : MandateValues). m.ac) c.ended-mandate.ensures.value);
      causes_are = c.ended-causes.ensures plan steps None c.args.cause true h.causes_are (posts.no_cause (c.idle_acts.ensures.1 plan steps None c.args.cause true))
          (posts.live_told k (c.args.entry.now ∷ past) (Does None (End c.args.cause) true ∷ steps) _ same contactor_is);
      course_is = c.ended-course.ensures true ∙ ap (λ (d : Course). acted (End c.args.cause) true d)
          (h.course_is ∙ posts.unread (told_course plan steps).session (seen_in steps) (told_course plan steps) plan);
      spelled_is = refl;
    }
