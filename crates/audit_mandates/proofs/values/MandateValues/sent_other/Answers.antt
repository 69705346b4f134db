use Rattle.std.proofs.Common.{refl, None, ap, sym, subst, ◌∙◌}
use Rattle.audit_mandates.specs.declared.values.MandateValues.{MandateValues}
use Rattle.audit_mandates.specs.Values.{AreOf, responded_by, said_if}
use Rattle.audit_mandates.proofs.Steps.{other_told}
use Rattle.audit_mandates.proofs.Currents.{sent_same}
use Rattle.audit_mandates.proofs.values.MandateValues.sent_other.Goals as goal

pub returns : goal.returns
returns c steps reading bytes taken is h = (
  subst (AreOf _) (sym (c.responded.ensures ∙ ap (λ (v : MandateValues). said_if v.lives (responded_by None v) v) c.sent.ensures))
      (other_told reading bytes taken c.args.judged steps c.args.self is h),
  sent_same c.args.judged c.args.self c.sent.result (responded_by None c.sent.result) c.responded.result c.responded.ensures refl c.sent.ensures,
)
