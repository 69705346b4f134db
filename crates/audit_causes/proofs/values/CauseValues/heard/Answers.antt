use Rattle.std.proofs.Common.{subst, sym}
use Rattle.audit_causes.specs.Values.{AreOf}
use Rattle.audit_causes.proofs.Steps.{heard_told}
use Rattle.audit_causes.proofs.values.CauseValues.heard.Goals as goal

pub returns : goal.returns
returns g c plan steps at bytes h come same =
    subst (AreOf _ plan _) (sym c.then.ensures)
    (heard_told _ plan c.args.post c.args.what.now at bytes steps c.args.self c.comes_at.result c.args.comes c.args.live c.comes_at.ensures h come same)
