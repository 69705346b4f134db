use Rattle.std.proofs.Common.{sym, ◌∙◌}
use Rattle.audit_mandates.proofs.Mandated.{mandated_told, mandated_back}
use Rattle.audit_mandates.proofs.values.MandateValues.is_mandated.Goals as goal

pub returns : goal.returns
returns g c plan steps ac h starts = (
  λ is. mandated_told _ plan steps c.args.self.now c.args.starting ac h starts.0 (sym c.closes.ensures ∙ is),
  λ m. c.closes.ensures ∙ mandated_back _ plan steps c.args.self.now c.args.starting ac h starts.1 m,
)
