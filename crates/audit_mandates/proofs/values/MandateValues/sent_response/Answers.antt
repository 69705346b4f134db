use Rattle.std.proofs.Common.{refl, None, ap, sym, subst, ◌∙◌}
use Rattle.std.specs.Prelude.{if◌then◌else◌}
use Rattle.std.specs.declared.option.Option.{Option}
use Rattle.charge_world.specs.declared.offer.Dialect.{Dialect}
use Rattle.audit_mandates.specs.declared.values.MandateValues.{MandateValues}
use Rattle.audit_mandates.specs.Values.{AreOf, responded_by, said_if}
use Rattle.audit_mandates.proofs.Steps.{response_told}
use Rattle.audit_mandates.proofs.Currents.{sent_same}
use Rattle.audit_mandates.proofs.values.MandateValues.sent_response.Goals as goal

pub returns : goal.returns
returns c steps reading bytes taken is h = (
  subst (AreOf _) (sym (c.responded.ensures
      ∙ ap (λ (o : Option Dialect). said_if c.sent.result.lives (responded_by o c.sent.result) c.sent.result) c.matched.ensures
      ∙ ap (λ (v : MandateValues). said_if v.lives (responded_by (if c.args.positive then c.args.chosen else None) v) v) c.sent.ensures))
      (response_told reading bytes taken c.args.chosen c.args.positive c.args.judged steps c.args.self is h),
  sent_same c.args.judged c.args.self c.sent.result (responded_by c.matched.result c.sent.result) c.responded.result c.responded.ensures refl c.sent.ensures,
)
