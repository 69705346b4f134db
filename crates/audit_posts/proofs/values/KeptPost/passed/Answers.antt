use Rattle.std.proofs.Common.{sym, ◌∙◌}
use Rattle.audit_posts.proofs.Posts.{passed_seen}
use Rattle.audit_posts.proofs.values.KeptPost.passed.Goals as goal

pub returns : goal.returns
returns g c past steps heard acts h = record {
  seen_is = h.seen_is ∙ sym (passed_seen c.args.post c.args.entry.now past heard acts);
  sessions_are = c.behind-sessions.ensures past h.sessions_are;
  contactor_is = c.behind-contactor.ensures past h.contactor_is;
  mandate_is = h.mandate_is;
  ac_is = h.ac_is;
  causes_are = h.causes_are;
  course_is = h.course_is;
  spelled_is = h.spelled_is;
}
