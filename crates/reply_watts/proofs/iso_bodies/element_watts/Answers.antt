use Rattle.std.proofs.Common.{Some, sym, subst, refl}
use Rattle.iso_message.specs.declared.message.BodyElement.{BodyElement}
use Rattle.iso_message.specs.declared.message.BodyElement.TheVariants as e
use Rattle.audit_watts.specs.Values.{no_watts}
use Rattle.reply_watts.proofs.Elements.{◌or◌}
use Rattle.reply_watts.proofs.IsoBodies.{BodySpells, quiet_body}
use Rattle.reply_watts.proofs.iso_bodies.element_watts.Goals as goal

pub returns-in-Brief : goal.returns-in-Brief
returns-in-Brief c own =
    subst (λ (e : BodyElement). BodySpells own c.args.plan.now c.args.spoken c.args.told e c.brief_watts.result) (sym c.in-Brief.is) (c.brief_watts.ensures own)

pub returns-in-ChargeParameterDiscoveryRes : goal.returns-in-ChargeParameterDiscoveryRes
returns-in-ChargeParameterDiscoveryRes c own =
    subst (λ (e : BodyElement). BodySpells own c.args.plan.now c.args.spoken c.args.told e (Some c.parameters.result)) (sym c.in-ChargeParameterDiscoveryRes.is)
    (_, (tt, refl), c.parameters.ensures)

pub returns-in-ServiceDiscoveryRes : goal.returns-in-ServiceDiscoveryRes
returns-in-ServiceDiscoveryRes c own = (
  no_watts,
  (quiet_body own c.args.element.now (λ x. e.ServiceDiscoveryRes x) (λ x. (tt, refl))
      or quiet_body own c.args.element.now (λ x. e.ServiceDetailRes x) (λ x. (tt, refl))) c.in-ServiceDiscoveryRes.is,
  c.new.ensures c.args.plan.now c.args.spoken c.args.told,
)
