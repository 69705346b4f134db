use Rattle.std.proofs.Common.{subst, sym}
use Rattle.audit_causes.specs.Values.{AreOf}
use Rattle.audit_causes.proofs.Steps.{ended_told}
use Rattle.audit_causes.proofs.values.CauseValues.ended.Goals as goal

pub returns : goal.returns
returns g c plan steps reading cause taken h come same =
    subst (AreOf _ plan _) (sym c.stepped.ensures) (ended_told _ plan steps reading cause taken c.args.self c.args.comes c.args.live h come same)
