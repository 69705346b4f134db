use Rattle.std.proofs.Common.{subst, sym}
use Rattle.audit_watts.specs.Values.{written_of, AreOf}
use Rattle.audit_watts.proofs.Added.{current_told}
use Rattle.audit_watts.proofs.values.WattValues.with_current.Goals as goal

pub returns : goal.returns
returns c spoken s none h =
    subst (AreOf c.args.plan.now spoken _ _) (sym c.with.ensures)
    (current_told c.args.plan.now spoken c.args.told s c.args.self (written_of c.args.current) c.current_watts.result c.writes_current.result none
    c.current_watts.ensures c.writes_current.ensures h)
