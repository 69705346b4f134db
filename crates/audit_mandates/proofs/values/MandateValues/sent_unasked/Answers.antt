use Rattle.std.proofs.Common.{refl, ap, sym, subst, ◌∙◌}
use Rattle.audit_mandates.specs.declared.values.MandateValues.{MandateValues}
use Rattle.audit_mandates.specs.Values.{AreOf, said_if}
use Rattle.audit_mandates.proofs.Steps.{unasked_told}
use Rattle.audit_mandates.proofs.Currents.{sent_same}
use Rattle.audit_mandates.proofs.values.MandateValues.sent_unasked.Goals as goal

pub returns : goal.returns
returns c steps reading bytes taken is h = (
  subst (AreOf _) (sym (c.unasked.ensures ∙ ap (λ (v : MandateValues). said_if v.lives v v) c.sent.ensures))
      (unasked_told reading bytes taken c.args.judged steps c.args.self is h),
  sent_same c.args.judged c.args.self c.sent.result c.sent.result c.unasked.result c.unasked.ensures refl c.sent.ensures,
)
