use Rattle.std.proofs.Common.{map, refl}
use Rattle.faultless_pasts.specs.Faultless.{told_codecs}
use Rattle.trace_audit.proofs.Seating.{unstarted, first_seated, first_even}
use Rattle.trace_audit.proofs.site.AuditedSite.make.Goals as goal

pub returns-clause-count : goal.returns-clause-count
returns-clause-count g c = c.in_ok-seats.ensures.count

pub returns-clause-open : goal.returns-clause-open
returns-clause-open g c =
    let all = told_codecs g.R.Coded.negotiates g.R.Coded.reads g.R.Coded.encodes g.R.ToldCoded.responds g.R.ToldCoded.watts in
    let site = c.args.plan.now in
    record {
      passed = record {
        posts = map unstarted site.post.items;
        seated = first_seated all site c.in_ok-seats.seats.items c.in_ok-seats.ensures;
        of = tt;
        begun_is = refl;
        judged = (c.nothing.ensures, first_even all site c.in_ok-seats.seats.items c.in_ok-seats.ensures);
      };
      clean = tt;
    }
