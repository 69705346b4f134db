use Rattle.std.proofs.Common.{Bool, List, sym, ap, subst, arith}
use Rattle.session_words.specs.declared.plan.PostPlan.{PostPlan}
use Rattle.trace_audit.specs.Seats.{IsAt}
use Rattle.std.specs.Prelude.{◌||◌}
use Rattle.told_pasts.specs.Checks.{is_heard}
use Rattle.faultless_pasts.specs.Faultless.{told_codecs}
use Rattle.determined_pasts.proofs.Once.{posts_once}
use Rattle.trace_audit.proofs.Deciding.{even_before, free_before}
use Rattle.trace_audit.proofs.Passing.{Ready, all_judged, even_next}
use Rattle.trace_audit.proofs.Seating.{above_so}
use Rattle.trace_audit.proofs.site.pass.Goals as goal

pub returns : goal.returns
returns g c past before p none =
    let all = told_codecs g.R.Coded.negotiates g.R.Coded.reads g.R.Coded.encodes g.R.ToldCoded.responds g.R.ToldCoded.watts in
    let site = c.args.plan.now in
    let e = c.args.entry.now in
    let olds = c.args.seats.now in
    let news = c.pass_all.new.seats in
    let one = posts_once all g.met.R.ToldReader.determined g.met.R.ToldReader.responds_once g.met.R.ToldReader.watts_once in
    let r : Ready all site past e p.posts olds news c.shown-watts.result = record {
      one = one;
      seated = p.seated;
      of = p.of;
      is_of = c.requires.of;
      even = even_before all site past e before olds p.judged none;
      free = free_before all site past e before p.posts olds p.seated p.judged none;
      shown_is = c.shown-watts.ensures past p.posts p.seated;
      count = omega (arith, c.pass_all.auto.seats);
      passing = λ i plan old new h k l. c.pass_all.ensures i plan old new (subst (λ (ps : List PostPlan). IsAt ps i plan) (sym c.as_slice.ensures.value) h) k l;
      small = c.requires.plan.limit;
    } in
    let now = all_judged all site past e p.posts olds news c.shown-watts.result r in
    let above = above_so all site past e now.0 news c.is_above-above.result one now.1.seated c.is_above-above.ensures in
    record {
      posts = now.0;
      seated = now.1.seated;
      of = (c.requires.of, p.of);
      begun_is = ap (λ (b : Bool). is_heard e || b) p.begun_is;
      judged = (c.of.ensures site past now.0 now.1 p.begun_is above, even_next all site past e p.posts olds news c.shown-watts.result r);
    }
