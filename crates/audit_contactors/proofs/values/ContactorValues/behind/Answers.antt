use Rattle.std.proofs.Common.{◌∷◌, subst, sym}
use Rattle.audit_contactors.specs.declared.values.ContactorValues.{ContactorValues}
use Rattle.audit_contactors.specs.Values.{AreOf}
use Rattle.audit_contactors.proofs.Steps.{told}
use Rattle.audit_contactors.proofs.values.ContactorValues.behind.Goals as goal

pub returns : goal.returns
returns c past h = subst (λ (v : ContactorValues). AreOf c.args.post (c.args.entry.now ∷ past) v) (sym c.then.ensures) (told c.args.post c.args.entry.now past c.args.self h)
