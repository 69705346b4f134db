use Rattle.audit_checks.proofs.Due.{is_due}
use Rattle.audit_checks.proofs.checks.Check.may_fail.Goals as goal

pub returns : goal.returns
returns g c = is_due _ c.args.self c.args.entry.now c.args.ends c.args.last c.args.above c.is_due.result c.is_due.ensures
