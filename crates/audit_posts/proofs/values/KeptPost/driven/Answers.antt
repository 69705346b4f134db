use Rattle.std.proofs.Common.{◌∷◌, sym, ◌∙◌}
use Rattle.post_spec.specs.Steps.{Give}
use Rattle.told_pasts.specs.Course.{told_course}
use Rattle.told_pasts.specs.Steps.{Does, seen_in}
use Rattle.audit_posts.proofs.Posts as posts
use Rattle.audit_posts.proofs.values.KeptPost.driven.Goals as goal

pub returns : goal.returns
returns g c past steps reading is read h next =
    let k = c.args.post in
    let plan = c.args.plan.now in
    let v = c.args.self in
    let same = posts.drove_seen k reading c.args.given.now c.args.taken past steps c.args.entry.now is h.seen_is in
    let sessions_are = c.behind-sessions.ensures past h.sessions_are in
    let contactor_is = c.behind-contactor.ensures past h.contactor_is in
    let course_is = c.read-course.ensures (seen_in steps) (told_course plan steps) reading (posts.seen_told k past steps v.sessions h.seen_is h.sessions_are)
    (posts.stands_told k past steps v.contactor h.seen_is h.contactor_is) h.course_is read in
    let comes = c.comes_driven-comes.ensures steps reading (posts.knows_told _ plan k (c.args.entry.now ∷ past) (Does reading (Give c.args.given.now) c.args.taken ∷ steps) _ _ _ c.args.next.now same sessions_are contactor_is course_is next) in
    record {
      seen_is = same;
      sessions_are = sessions_are;
      contactor_is = contactor_is;
      mandate_is = c.acted-mandate.ensures.order steps reading c.args.given.now c.args.taken (c.was_judged.ensures ∙ posts.read_some c.args.judged.now c.args.shown reading read) h.mandate_is;
      ac_is = h.ac_is ∙ sym c.acted-mandate.ensures.current;
      causes_are = c.drove-causes.ensures plan steps reading c.args.taken h.causes_are comes (posts.live_told k (c.args.entry.now ∷ past) (Does reading (Give c.args.given.now) c.args.taken ∷ steps) _ same contactor_is);
      course_is = course_is;
      spelled_is = h.spelled_is;
    }
