use Rattle.std.proofs.Common.{refl, List, subst, sym}
use Rattle.post_spec.specs.Steps.{Seen}
use Rattle.told_pasts.specs.Site.{Shows}
use Rattle.faultless_pasts.specs.Faultless.{told_codecs}
use Rattle.audit_posts.specs.Values as posts
use Rattle.audit_posts.specs.declared.values.KeptPost.{KeptPost}
use Rattle.audit_streams.specs.Streams as streams
use Rattle.audited_posts.proofs.Passing.{Place, passes}
use Rattle.audited_posts.proofs.posts.AuditedPost.behind.Goals as goal

pub returns-clause-passes : goal.returns-clause-passes
returns-clause-passes g c limit before behind past steps h even free shown =
    let all = told_codecs g.R.Coded.negotiates g.R.Coded.reads g.R.Coded.encodes g.R.ToldCoded.responds g.R.ToldCoded.watts in
    let p : Place = record {
      c = all;
      Share = Shows limit before behind;
      plan = c.args.plan.now;
      k = c.args.post;
      past = past;
      steps = steps;
      about = record { judged = c.judged-judged.result; shown = c.args.shown; saying = c.answer-saying.result.saying; most = c.answer-saying.result.most; next = c.next_word-next.result };
      told = c.told_behind-told.result;
      answer = c.answer-saying.result;
      stream = c.pass.new.stream;
      kept = c.behind-self.result;
      old = c.args.self.now.writes;
      writes = c.writes_behind-self.result;
      seen_is = h.kept_are.seen_is;
      old_is = h.writes_is;
      told_is = c.told_behind-told.ensures.told c.args.post past steps h;
      saying_is = refl;
      most_is = refl;
      next_is = λ later s. c.next_word-next.ensures later s;
    } in
    passes p c.args.entry.now (record {
      judges = c.judged-judged.ensures c.args.plan.now past steps h;
      shown = shown;
      says = c.answer-saying.ensures past steps h even;
      writes_is = c.writes_behind-self.ensures;
      on = c.pass.ensures past (subst (λ (s : List Seen). streams.AreOf all.words c.args.plan.now.dialects.items s c.args.self.now.stream) h.kept_are.seen_is h.stream_are) even free;
      kept_is = λ later step. c.behind-self.ensures past steps later
          (subst (λ (v : KeptPost). posts.AreOf all c.args.plan.now c.args.post past steps v) (sym c.replace-kept.ensures.value) h.kept_are) step;
    })

pub returns-clause-starting : goal.returns-clause-starting
returns-clause-starting g c past steps h = c.starts-starting.ensures c.args.plan.now steps h.stream_are
