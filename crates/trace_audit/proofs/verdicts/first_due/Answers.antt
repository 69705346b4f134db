use Rattle.faultless_pasts.specs.Faultless.{told_codecs}
use Rattle.audit_checks.proofs.Posts.{are_posts}
use Rattle.trace_audit.proofs.Failing.{not_true}
use Rattle.trace_audit.proofs.verdicts.first_due.Goals as goal

pub returns-else-may_fail : goal.returns-else-may_fail
returns-else-may_fail g c site earlier behind posts h place f =
    let all = told_codecs g.R.Coded.negotiates g.R.Coded.reads g.R.Coded.encodes g.R.ToldCoded.responds g.R.ToldCoded.watts in
    let of = (are_posts all site earlier c.args.entry.now behind c.args.check).0 f in
    not_true c.may_fail.result c.if-may_fail.false (c.may_fail.ensures site earlier behind of.0 place.ends_is.1 place.last_is.1 place.above_is.1 of.1)
