use Rattle.std.proofs.Common.{subst, sym}
use Rattle.audit_causes.specs.Values.{AreOf}
use Rattle.audit_causes.proofs.Steps.{answered_told}
use Rattle.audit_causes.proofs.values.CauseValues.answered.Goals as goal

pub returns : goal.returns
returns g c plan steps reading bytes taken h come same =
    subst (AreOf _ plan _) (sym c.stepped.ensures) (answered_told _ plan steps reading bytes taken c.args.self c.args.comes c.args.live h come same)
