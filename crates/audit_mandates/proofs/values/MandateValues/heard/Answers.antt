use Rattle.audit_mandates.proofs.Steps.{heard_at}
use Rattle.audit_mandates.proofs.Currents.{heard_same}
use Rattle.audit_mandates.proofs.values.MandateValues.heard.Goals as goal

pub returns : goal.returns
returns c steps at bytes h = (
  heard_at c.args.post at c.args.what.now bytes steps c.args.self c.then.result c.then.ensures h,
  heard_same _ c.args.self c.then.result c.then.ensures,
)
