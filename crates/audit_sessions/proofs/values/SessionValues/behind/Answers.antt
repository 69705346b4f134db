use Rattle.std.proofs.Common.{◌∷◌, subst, sym}
use Rattle.audit_sessions.specs.Values.{AreOf}
use Rattle.audit_sessions.proofs.Steps.{told}
use Rattle.audit_sessions.proofs.values.SessionValues.behind.Goals as goal

pub returns : goal.returns
returns c past h = subst (AreOf c.args.post (c.args.entry.now ∷ past)) (sym c.then.ensures) (told c.args.post c.args.entry.now past c.args.self h)
