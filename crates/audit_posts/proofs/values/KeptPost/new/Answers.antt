use Rattle.std.proofs.Common.{refl, sym, ap, ◌∙◌}
use Rattle.audit_mandates.specs.declared.values.MandateValues.{MandateValues}
use Rattle.audit_posts.proofs.values.KeptPost.new.Goals as goal

pub returns : goal.returns
returns g c post = record {
  seen_is = refl;
  sessions_are = c.new-sessions.ensures.none post;
  contactor_is = c.new-contactor.ensures.none post;
  mandate_is = c.new-mandate.ensures.none;
  ac_is = sym c.is_ac.ensures ∙ sym (ap (λ (m : MandateValues). m.ac) c.new-mandate.ensures.value);
  causes_are = c.new-causes.ensures c.args.plan.now;
  course_is = c.new-course.ensures;
  spelled_is = refl;
}
