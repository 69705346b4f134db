use Rattle.std.proofs.Common.{◌∷◌, sym, ◌∙◌}
use Rattle.told_pasts.specs.Course.{told_course}
use Rattle.told_pasts.specs.Steps.{Sends, seen_in}
use Rattle.audit_posts.proofs.Posts as posts
use Rattle.audit_posts.proofs.values.KeptPost.sent.Goals as goal

pub returns : goal.returns
returns g c past steps reading bytes said is read says most h next =
    let k = c.args.post in
    let plan = c.args.plan.now in
    let v = c.args.self in
    let same = posts.sent_seen k reading bytes c.args.taken said past steps c.args.entry.now is h.seen_is in
    let sessions_are = c.behind-sessions.ensures past h.sessions_are in
    let contactor_is = c.behind-contactor.ensures past h.contactor_is in
    let course_is = c.sent-course.ensures plan steps reading bytes said says
    (c.read-read.ensures (seen_in steps) (told_course plan steps) reading (posts.seen_told k past steps v.sessions h.seen_is h.sessions_are)
    (posts.stands_told k past steps v.contactor h.seen_is h.contactor_is) h.course_is read) in
    let comes = c.comes_sent-comes.ensures steps reading bytes said says (posts.knows_told _ plan k (c.args.entry.now ∷ past) (Sends reading bytes c.args.taken said ∷ steps) _ _ _ c.args.next.now same sessions_are contactor_is course_is next) in
    let stays = c.mandate_behind-mandate.ensures steps reading bytes c.args.taken said says (c.was_judged.ensures ∙ posts.read_some c.args.judged.now c.args.shown reading read) h.mandate_is in
    record {
      seen_is = same;
      sessions_are = sessions_are;
      contactor_is = contactor_is;
      mandate_is = stays.0;
      ac_is = h.ac_is ∙ sym stays.1;
      causes_are = c.sent-causes.ensures plan steps reading bytes c.args.taken said h.causes_are comes (posts.live_told k (c.args.entry.now ∷ past) (Sends reading bytes c.args.taken said ∷ steps) _ same contactor_is);
      course_is = course_is;
      spelled_is = posts.spelled_sent plan steps said c.args.saying.now _ v.mandate.lives c.args.most v.spelled _ says most h.mandate_is.0.lives_is h.spelled_is c.spelled_behind.ensures;
    }
