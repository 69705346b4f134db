use Rattle.std.proofs.Common.{Bool, subst, sym, ap, ◌∙◌}
use Rattle.std.specs.Prelude.{not}
use Rattle.audit_causes.specs.Values.{AreOf, stepped}
use Rattle.audit_causes.proofs.Steps.{drove_told}
use Rattle.audit_causes.proofs.values.CauseValues.drove.Goals as goal

pub returns : goal.returns
returns g c plan steps reading taken h come same =
    subst (AreOf _ plan _)
    (sym (c.stepped.ensures ∙ ap (λ (b : Bool). stepped c.args.comes c.args.live c.args.self.caused (not b) c.args.self) c.is_open.ensures))
    (drove_told _ plan steps reading c.args.given taken c.args.self c.args.comes c.args.live h come same)
