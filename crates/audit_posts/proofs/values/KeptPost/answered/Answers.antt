use Rattle.std.proofs.Common.{◌∷◌, None, refl, sym, ◌∙◌}
use Rattle.post_spec.specs.Steps.{Answer}
use Rattle.told_pasts.specs.Course.{told_course}
use Rattle.told_pasts.specs.Steps.{Does, seen_in}
use Rattle.audit_posts.proofs.Posts as posts
use Rattle.audit_posts.proofs.values.KeptPost.answered.Goals as goal

pub returns : goal.returns
returns g c past steps bytes taken is h =
    let k = c.args.post in
    let plan = c.args.plan.now in
    let v = c.args.self in
    let same = posts.answered_seen k bytes taken past steps c.args.entry.now is h.seen_is in
    let contactor_is = c.behind-contactor.ensures past h.contactor_is in
    record {
      seen_is = same;
      sessions_are = c.behind-sessions.ensures past h.sessions_are;
      contactor_is = contactor_is;
      mandate_is = c.acted-mandate.ensures.datagram steps None bytes taken refl h.mandate_is;
      ac_is = h.ac_is ∙ sym c.acted-mandate.ensures.current;
      causes_are = c.answered-causes.ensures plan steps None bytes taken h.causes_are (posts.no_cause (c.idle_acts.ensures.0 plan steps None bytes taken))
          (posts.live_told k (c.args.entry.now ∷ past) (Does None (Answer bytes) taken ∷ steps) _ same contactor_is);
      course_is = h.course_is ∙ posts.unread (told_course plan steps).session (seen_in steps) (told_course plan steps) plan;
      spelled_is = h.spelled_is;
    }
