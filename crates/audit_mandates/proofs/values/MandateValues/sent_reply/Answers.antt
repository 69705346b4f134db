use Rattle.std.proofs.Common.{refl, ap, sym, subst, ◌∙◌}
use Rattle.audit_mandates.specs.declared.values.MandateValues.{MandateValues}
use Rattle.audit_mandates.specs.Values.{AreOf, replied_by, said_if}
use Rattle.audit_mandates.proofs.Steps.{reply_told}
use Rattle.audit_mandates.proofs.Currents.{sent_same}
use Rattle.audit_mandates.proofs.values.MandateValues.sent_reply.Goals as goal

pub returns : goal.returns
returns c steps reading bytes taken watts is h = (
  subst (AreOf _) (sym (c.replied.ensures ∙ ap (λ (v : MandateValues). said_if v.lives (replied_by c.args.request.now c.args.reply.now v) v) c.sent.ensures))
      (reply_told reading bytes taken c.args.request.now c.args.reply.now watts c.args.judged steps c.args.self is h),
  sent_same c.args.judged c.args.self c.sent.result (replied_by c.args.request.now c.args.reply.now c.sent.result) c.replied.result c.replied.ensures refl c.sent.ensures,
)
