use Rattle.std.proofs.Common.{subst, sym}
use Rattle.audit_causes.specs.Values.{AreOf}
use Rattle.audit_causes.proofs.Steps.{sent_told}
use Rattle.audit_causes.proofs.values.CauseValues.sent.Goals as goal

pub returns : goal.returns
returns g c plan steps reading bytes taken said h come same =
    subst (AreOf _ plan _) (sym c.stepped.ensures) (sent_told _ plan steps reading bytes taken said c.args.self c.args.comes c.args.live h come same)
