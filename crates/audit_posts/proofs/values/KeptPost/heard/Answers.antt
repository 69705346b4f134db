use Rattle.std.proofs.Common.{max, ◌∷◌, sym, ◌∙◌}
use Rattle.post_spec.specs.Steps.{event_at, moment}
use Rattle.told_pasts.specs.Steps.{Hears}
use Rattle.audit_posts.proofs.Posts as posts
use Rattle.audit_posts.proofs.values.KeptPost.heard.Goals as goal

pub returns : goal.returns
returns g c past steps bytes is h next =
    let k = c.args.post in
    let plan = c.args.plan.now in
    let heard = c.args.heard.now in
    let v = c.args.self in
    let at = max (moment past) heard.at in
    let same = posts.heard_seen k heard bytes past steps c.args.entry.now is h.seen_is in
    let sessions_are = c.behind-sessions.ensures past h.sessions_are in
    let contactor_is = c.behind-contactor.ensures past h.contactor_is in
    let came = posts.arriving_told k past steps v.sessions h.seen_is h.sessions_are in
    let course_is = c.heard-course.ensures plan steps at bytes came h.course_is in
    let comes = c.comes_heard-comes.ensures steps at bytes
    (posts.knows_told _ plan k (c.args.entry.now ∷ past) (Hears at (event_at k heard.what bytes) ∷ steps) _ _ _ c.args.next.now same sessions_are contactor_is course_is next)
    (posts.stands_told k past steps v.contactor h.seen_is h.contactor_is) (posts.live_told k past steps v.contactor h.seen_is h.contactor_is) in
    record {
      seen_is = same;
      sessions_are = sessions_are;
      contactor_is = contactor_is;
      mandate_is = (c.heard-mandate.ensures steps at bytes h.mandate_is).0;
      ac_is = h.ac_is ∙ sym (c.heard-mandate.ensures steps at bytes h.mandate_is).1;
      causes_are = c.heard-causes.ensures plan steps at bytes h.causes_are comes (posts.live_told k (c.args.entry.now ∷ past) (Hears at (event_at k heard.what bytes) ∷ steps) _ same contactor_is);
      course_is = course_is;
      spelled_is = posts.spelled_heard plan steps v.sessions.arrived v.spelled _ came h.spelled_is c.unless_arrived.ensures;
    }
