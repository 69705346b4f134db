use Rattle.std.proofs.Common.{ℕ, ◌+◌, Option, sym, subst}
use Rattle.told_pasts.specs.Site.{Shows}
use Rattle.audit_course.specs.Asking.{IsShare}
use Rattle.faultless_pasts.specs.Faultless.{told_codecs}
use Rattle.trace_audit.specs.Seats.{IsSeat}
use Rattle.trace_audit.specs.declared.seats.Seat.{Seat}
use Rattle.trace_audit.proofs.Levels.{shared_so}
use Rattle.trace_audit.proofs.Lists.{at_once}
use Rattle.trace_audit.proofs.shares.shown_at.Goals as goal

pub returns-in-Some : goal.returns-in-Some
returns-in-Some g c seat at before behind past steps h others =
    let all = told_codecs g.R.Coded.negotiates g.R.Coded.reads g.R.Coded.encodes g.R.ToldCoded.responds g.R.ToldCoded.watts in
    let own = subst (λ (s : Seat). IsSeat all c.args.plan.now (c.args.i + 1) past steps s) (at_once c.args.seats.now c.args.i seat c.index-seats-i.result at (c.requires.within, c.index-seats-i.is)) h in
    c.asks.ensures c.args.limit before behind past steps c.share.result own.are
    (subst (λ (o : Option ℕ). IsShare (Shows c.args.limit before behind) o c.share.result) (sym c.in-Some.is) (shared_so c.args.limit c.args.seats.now c.args.i c.in-Some.asked c.share.result before behind others c.share.ensures))
